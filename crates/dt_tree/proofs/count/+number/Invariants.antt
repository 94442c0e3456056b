use Rattle.std.proofs.Common.{◌≡◌, ◌+◌, ◌<◌, ◌≤◌, length, drop}
use Rattle.dt_tree.specs.Node.{tree_of, trees_of}
use Rattle.dt_tree.specs.Number.{capped}
use Rattle.dt_tree.specs.Rule.{depth_of, depth_of_parts}
use Rattle.dt_tree.specs.Tree.{flat, flat_parts}
use Rattle.dt_tree.proofs.count.+number.Given as goal

abbrev pub decreases-number : goal.decreases-number
decreases-number l = depth_of (tree_of l.node.now)

abbrev pub invariant-parts : goal.invariant-parts
invariant-parts l = record {
  total : capped (l.total + length (flat_parts (trees_of (drop l.part-index l.part-items)))) ≡ capped (length (flat (tree_of l.node)));
  still : l.total ≤ 18446744073709551616;
  shallow : depth_of_parts (trees_of (drop l.part-index l.part-items)) < depth_of (tree_of l.node);
}
