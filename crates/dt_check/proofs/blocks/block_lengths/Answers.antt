use Rattle.dt_normal.proofs.Splitting.{one_below, skip_below}
use Rattle.dt_check.proofs.blocks.block_lengths.Goals as goal
use Rattle.dt_check.proofs.blocks.block_lengths.Goals.{then-len-block-eq0+in_ok-push, else-len-block-eq0}

pub blocks-2-preserved : goal.blocks-2-preserved
blocks-2-preserved c =
    elim c.if-len-block-eq0.branch [
      | then-len-block-eq0+in_ok-push w ↦
          rw (w.lengths-is, w.in_ok-push.ensures.items)
          (one_below c.args.len c.blocks-2.block c.blocks-2.lengths.items c.blocks-2.invariant (c.blocks-2.auto.block, c.blocks-2-test.true, w.if-len-block-eq0.true))
      | else-len-block-eq0 w ↦ rw w.lengths-is (skip_below c.args.len c.blocks-2.block c.blocks-2.lengths.items c.blocks-2.invariant w.if-len-block-eq0.false)
    ]
