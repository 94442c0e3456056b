use Rattle.std.proofs.Common.{◌+◌, get_or, arith}
use Rattle.dt_alike.proofs.Stepping.{alike_run, alone_blocks, reached, not_reached}
use Rattle.dt_alike.proofs.blocks.blocks.Goals as goal
use Rattle.dt_alike.proofs.blocks.blocks.Goals.{then-entries-second-via-then-entries-second, then-entries-second-via-else-entries-second+then-reaches-second}

pub returns-then-entries-second : goal.returns-then-entries-second
returns-then-entries-second c =
    alone_blocks c.args.entries.now c.args.start c.args.len c.requires.inside
    (λ room same. elim c.then-entries-second.branch [
      | then-entries-second-via-then-entries-second w ↦ absurd (omega arith)
      | then-entries-second-via-else-entries-second+then-reaches-second w ↦
          not_reached c.args.entries.now c.args.start (c.args.start + c.args.len) (get_or c.args.reaches.now (c.args.start + c.args.len) 0) c.args.len
          (c.requires.reaches.reach (c.args.start + c.args.len) (omega arith)) w.if-reaches-second.true c.requires.inside (omega arith) same
    ])

pub even_blocks-requires-clause-alike : goal.even_blocks-requires-clause-alike
even_blocks-requires-clause-alike c =
    reached c.args.entries.now c.args.start (c.args.start + c.args.len) (get_or c.args.reaches.now (c.args.start + c.args.len) 0) c.args.len
    (c.requires.reaches.reach (c.args.start + c.args.len) (omega arith)) c.if-reaches-second.false

pub stacked_blocks-requires-clause-alike : goal.stacked_blocks-requires-clause-alike
stacked_blocks-requires-clause-alike c =
    reached c.args.entries.now c.args.start (c.args.start + c.args.len) (get_or c.args.reaches.now (c.args.start + c.args.len) 0) c.args.len
    (c.requires.reaches.reach (c.args.start + c.args.len) (omega arith)) c.if-reaches-second.false

pub returns : goal.returns
returns c =
    let same = reached c.args.entries.now c.args.start (c.args.start + c.args.len) (get_or c.args.reaches.now (c.args.start + c.args.len) 0) c.args.len
    (c.requires.reaches.reach (c.args.start + c.args.len) (omega arith)) c.if-reaches-second.false in
    record {
      alike = alike_run c.args.entries.now c.args.start c.args.len c.likeness_at.result.blocks.alike same c.likeness_at.ensures.blocks.alike;
      even = c.even_blocks.ensures;
      stacked = c.stacked_blocks.ensures;
    }
