use Rattle.std.proofs.Common.{◌<◌, ◌≤◌, drop}
use Rattle.dt_tree.specs.Node.{tree_of, trees_of}
use Rattle.dt_tree.specs.Rule.{depth_of, depth_of_parts}
use Rattle.dt_tree.proofs.numbers.+is_shallow.Given as goal

abbrev pub decreases-is_shallow : goal.decreases-is_shallow
decreases-is_shallow l = l.levels

abbrev pub invariant-parts : goal.invariant-parts
invariant-parts l = record {
  rest : depth_of_parts (trees_of (drop l.part-index l.part-items)) < depth_of (tree_of l.node);
  all : depth_of_parts (trees_of (drop l.part-index l.part-items)) < l.levels → depth_of (tree_of l.node) ≤ l.levels;
}
