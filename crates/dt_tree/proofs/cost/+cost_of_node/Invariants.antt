use Rattle.std.proofs.Common.{◌≡◌, ◌+◌, ◌<◌, drop}
use Rattle.dt_tree.specs.Cost.{cost_of, cost_of_parts}
use Rattle.dt_tree.specs.Node.{tree_of, trees_of}
use Rattle.dt_tree.specs.Rule.{depth_of, depth_of_parts}
use Rattle.dt_tree.proofs.cost.+cost_of_node.Given as goal

abbrev pub decreases-cost_of_node : goal.decreases-cost_of_node
decreases-cost_of_node l = depth_of (tree_of l.node.now)

abbrev pub invariant-parts : goal.invariant-parts
invariant-parts l = record {
  cost : l.cost + cost_of_parts l.w (trees_of (drop l.part-index l.part-items)) ≡ cost_of l.w (tree_of l.node);
  shallow : depth_of_parts (trees_of (drop l.part-index l.part-items)) < depth_of (tree_of l.node);
}
