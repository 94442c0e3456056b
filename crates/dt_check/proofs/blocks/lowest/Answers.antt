use Rattle.std.proofs.Common.{◌≡◌, get_or, refl, rules, length, arith, ap, ◌∙◌, sym}
use Rattle.dt_check.specs.Blocks.{IsSplit, split_cost, node_cost}
use Rattle.dt_check.specs.Rows.{table_in}
use Rattle.dt_normal.proofs.Splitting.{one_lowest, same_lowest}
use Rattle.dt_check.proofs.Rowed.{place_within, table_read}
use Rattle.dt_check.proofs.blocks.lowest.Goals as goal
use Rattle.dt_check.proofs.blocks.lowest.Goals.{then-stand, else-stand}

pub index-cost-requires : goal.index-cost-requires
index-cost-requires c =
    let block = get_or c.args.lengths.now c.lengths.block-index 0 in
    let is = c.requires.lengths.sound c.lengths.block-index c.lengths-test.true in
    let within = place_within (length c.args.classes.now) c.args.costs.now c.args.at.start block c.index-costs-block.result (record {
      shape = c.requires.rows;
      some = is.0;
      known = omega (arith, is.1, c.requires.each);
      inside = omega (arith, is.1, c.requires.inside);
      is = c.index-costs-block.is;
    }) in
    omega (arith, within, c.index-costs-block.result.ok.0)

pub node_cost-requires-clause-block : goal.node_cost-requires-clause-block
node_cost-requires-clause-block c =
    let block = get_or c.args.lengths.now c.lengths.block-index 0 in
    let is = c.requires.lengths.sound c.lengths.block-index c.lengths-test.true in
    let read = table_read c.args.costs.now c.args.at.start block (length c.args.classes.now) c.index-cost.result.now c.index-costs-block.result c.requires.rows is.0 (omega (arith, is.1, c.requires.each))
    (omega (arith, is.1, c.requires.inside)) c.index-costs-block.is c.index-cost.ensures in
    omega (arith, read, c.requires.low c.args.at.start block)

pub lengths-preserved : goal.lengths-preserved
lengths-preserved c =
    elim c.if-stand.branch [
      | then-stand w ↦
          let block = get_or c.args.lengths.now c.lengths.block-index 0 in
          let is = c.requires.lengths.sound c.lengths.block-index c.lengths-test.true in
          let read : table_in c.args.costs.now c.args.at.start block ≡ w.index-cost.result.now =
          table_read c.args.costs.now c.args.at.start block (length c.args.classes.now) w.index-cost.result.now w.index-costs-block.result c.requires.rows is.0 (omega (arith, is.1, c.requires.each))
          (omega (arith, is.1, c.requires.inside)) w.index-costs-block.is w.index-cost.ensures in
          rw (w.least-is)
          (one_lowest (IsSplit c.args.split c.args.classes.now c.args.at.start c.args.at.len) (split_cost c.args.w.now c.args.split c.args.costs.now c.args.at.start c.args.at.len) c.args.most c.args.lengths.now c.lengths.block-index block w.node_cost.result c.lengths.least w.min-least.result c.lengths.invariant refl
          (is, c.stand.ensures.0 (search rules)) (w.node_cost.ensures ∙ ap (node_cost c.args.w.now c.args.split _) (sym read)) w.min-least.ensures)
      | else-stand w ↦
          let block = get_or c.args.lengths.now c.lengths.block-index 0 in
          rw (w.least-is)
          (same_lowest (IsSplit c.args.split c.args.classes.now c.args.at.start c.args.at.len) (split_cost c.args.w.now c.args.split c.args.costs.now c.args.at.start c.args.at.len) c.args.most c.args.lengths.now c.lengths.block-index block c.lengths.least c.lengths.invariant refl
          (λ holds. let yes = c.stand.ensures.1 holds.1 in cc (yes, w.if-stand.false)))
    ]
