use Rattle.std.proofs.Common.{◌≡◌, ◌+◌, arith}
use Rattle.dt_alike.proofs.Filling.{one_filled, all_filled}
use Rattle.dt_alike.proofs.firsts.firsts.Goals as goal

pub starts-preserved : goal.starts-preserved
starts-preserved c =
    rw c.in_ok-fill_up.ensures
    (one_filled c.args.entries.now c.args.start c.starts.k c.args.reaches.now c.starts.firsts.items c.requires.reaches (omega arith) c.requires.start c.starts.invariant)

pub returns : goal.returns
returns c =
    let end : c.starts.k ≡ c.args.start + 1 = omega arith in
    all_filled c.args.entries.now c.args.start c.args.reaches.now c.starts.firsts.items c.requires.reaches c.requires.start (rw end at c.starts.invariant)
