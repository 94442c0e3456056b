use Rattle.std.proofs.Common.{◌∙◌, arith}
use Rattle.dt_kinds.specs.declared.kind.Rep.TheVariants.{Native}
use Rattle.dt_rows.proofs.Totals.{some_bytes}
use Rattle.dt_copy.proofs.Pieces.{rows_lie, rows_scattered}
use Rattle.dt_copy.proofs.side.Side.give_rows.Goals as goal

pub scatter-requires-clause-inside : goal.scatter-requires-clause-inside
scatter-requires-clause-inside c = rows_lie c.args.self.now c.in-Some.rows c.in-Some.ensures.next c.args.buffer.now c.requires.buffer

pub scatter-requires-clause-near : goal.scatter-requires-clause-near
scatter-requires-clause-near c = (let next = c.in-Some.ensures.next in let small = next.small in omega (arith, small, c.requires.buffer))

pub returns-clause-some : goal.returns-clause-some
returns-clause-some c =
    let next = c.in-Some.ensures.next in
    (some_bytes Native c.in-Some.rows next.shape, c.in-Some.ensures.most)

pub returns-clause-bytes : goal.returns-clause-bytes
returns-clause-bytes c = c.scatter.ensures ∙ rows_scattered c.args.self.now c.in-Some.rows c.in-Some.ensures.next c.args.buffer.now c.args.piece.now
