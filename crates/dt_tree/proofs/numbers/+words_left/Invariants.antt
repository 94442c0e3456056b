use Rattle.std.proofs.Common.{◌≡◌, ◌<◌, ◌+◌, drop}
use Rattle.dt_tree.specs.Node.{tree_of, trees_of}
use Rattle.dt_tree.specs.Rule.{depth_of, depth_of_parts, words_of, words_of_parts}
use Rattle.dt_tree.proofs.numbers.+words_left.Given as goal

abbrev pub decreases-words_left : goal.decreases-words_left
decreases-words_left l = depth_of (tree_of l.node.now)

abbrev pub invariant-parts : goal.invariant-parts
invariant-parts l = record {
  words : l.left + words_of (tree_of l.node) ≡ l.fn.left + words_of_parts (trees_of (drop l.part-index l.part-items));
  shallow : depth_of_parts (trees_of (drop l.part-index l.part-items)) < depth_of (tree_of l.node);
}
