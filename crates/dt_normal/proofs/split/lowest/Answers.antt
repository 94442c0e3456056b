use Rattle.std.proofs.Common.{get_or, refl, rules}
use Rattle.dt_normal.specs.Splits.{IsSplit, split_cost}
use Rattle.dt_normal.proofs.Splitting.{one_lowest, same_lowest}
use Rattle.dt_normal.proofs.split.lowest.Goals as goal
use Rattle.dt_normal.proofs.split.lowest.Goals.{then-stand, else-stand}

pub lengths-preserved : goal.lengths-preserved
lengths-preserved c =
    elim c.if-stand.branch [
      | then-stand w ↦
          let block = get_or c.args.lengths.now c.lengths.block-index 0 in
          rw (w.least-is)
          (one_lowest (IsSplit c.args.split c.args.classes.now c.args.at.start c.args.at.len) (split_cost c.args.w.now c.args.split c.args.at.len c.args.costs.now) c.args.most c.args.lengths.now c.lengths.block-index block w.node_cost.result c.lengths.least w.min-least.result c.lengths.invariant refl
          (c.requires.lengths.sound c.lengths.block-index c.lengths-test.true, c.stand.ensures.0 (search rules)) w.node_cost.ensures w.min-least.ensures)
      | else-stand w ↦
          let block = get_or c.args.lengths.now c.lengths.block-index 0 in
          rw (w.least-is)
          (same_lowest (IsSplit c.args.split c.args.classes.now c.args.at.start c.args.at.len) (split_cost c.args.w.now c.args.split c.args.at.len c.args.costs.now) c.args.most c.args.lengths.now c.lengths.block-index block c.lengths.least c.lengths.invariant refl
          (λ holds. let yes = c.stand.ensures.1 holds.1 in cc (yes, w.if-stand.false)))
    ]
