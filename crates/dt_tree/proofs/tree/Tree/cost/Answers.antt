use Rattle.std.proofs.Common.{arith}
use Rattle.dt_tree.specs.Node.{tree_of}
use Rattle.dt_tree.proofs.Prices.{cost_le}
use Rattle.dt_tree.proofs.tree.Tree.cost.Goals as goal

pub cost_of_node-requires : goal.cost_of_node-requires
cost_of_node-requires c =
    let rule = c.self.invariant in
    record { fits = omega (arith, rule.small, cost_le c.args.w.now (tree_of c.self.inside.root) c.are_light.ensures) }
