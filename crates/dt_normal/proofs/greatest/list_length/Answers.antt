use Rattle.std.proofs.Common.{arith}
use Rattle.dt_normal.proofs.Listing.{low_kept, low_left}
use Rattle.dt_normal.proofs.greatest.list_length.Goals as goal
use Rattle.dt_normal.proofs.greatest.list_length.Goals.{then-low-gt0+in_ok-push, else-low-gt0}

pub starts-preserved : goal.starts-preserved
starts-preserved c table are =
    elim c.if-low-gt0.branch [
      | then-low-gt0+in_ok-push w ↦
          rw (w.lows-is, w.in_ok-push.ensures.items, w.from.ensures)
          (low_kept c.args.w.now c.args.classes.now table c.starts.start c.args.len c.tree_cost-low.result c.args.lows.now.items c.starts.lows.items are
          (c.requires.some, omega (arith, c.starts-test.true, c.len.ensures.value)) c.tree_cost-low.ensures w.if-low-gt0.true (c.starts.invariant table are))
      | else-low-gt0 w ↦
          rw w.lows-is
          (low_left c.args.w.now c.args.classes.now table c.starts.start c.args.len c.tree_cost-low.result c.args.lows.now.items c.starts.lows.items are
          (c.requires.some, omega (arith, c.starts-test.true, c.len.ensures.value)) c.tree_cost-low.ensures (omega (arith, w.if-low-gt0.false)) (c.starts.invariant table are))
    ]
