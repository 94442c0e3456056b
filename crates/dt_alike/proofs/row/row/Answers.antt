use Rattle.std.proofs.Common.{arith}
use Rattle.dt_alike.proofs.Knowing.{natural_next, known_of, one_known}
use Rattle.dt_alike.proofs.row.row.Goals as goal

pub blocks-blocks-requires-clause-natural : goal.blocks-blocks-requires-clause-natural
blocks-blocks-requires-clause-natural c =
    natural_next c.args.entries.now c.args.start c.lengths.k c.index-natural.result.now c.in_ok-firsts.firsts.items c.in_ok-extents.extents.items c.in_ok-firsts.ensures
    c.in_ok-extents.ensures (omega arith) c.index-natural.ensures

pub lengths-preserved : goal.lengths-preserved
lengths-preserved c =
    let is = known_of c.args.entries.now c.args.start c.lengths.k c.index.result.now c.blocks-blocks.result c.index-natural.result.now c.in_ok-firsts.firsts.items
    c.in_ok-extents.extents.items c.in_ok-firsts.ensures c.in_ok-extents.ensures (omega arith) c.index.ensures c.index-natural.ensures c.blocks-blocks.ensures in
    rw c.in_ok-push.ensures.items (one_known c.args.entries.now c.args.start c.lengths.k c.lengths.row.items _ c.lengths.invariant is)
