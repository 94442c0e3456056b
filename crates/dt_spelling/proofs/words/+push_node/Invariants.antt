use Rattle.std.proofs.Common.{◌≡◌, ◌<◌, ◌++◌, flat_map, drop}
use Rattle.dt_tree.specs.Node.{tree_of, trees_of}
use Rattle.dt_tree.specs.Rule.{depth_of, depth_of_parts}
use Rattle.dt_spelling.specs.Spelling.{ended, words_of, words_of_parts}
use Rattle.dt_spelling.proofs.words.+push_node.Given as goal

abbrev pub decreases-push_node : goal.decreases-push_node
decreases-push_node l = depth_of (tree_of l.node.now)

abbrev pub invariant-parts : goal.invariant-parts
invariant-parts l = record {
  text : l.out.items ++ flat_map ended (words_of_parts (trees_of (drop l.part-index l.part-items))) ≡ l.fn.out.items ++ flat_map ended (words_of (tree_of l.node));
  shallow : depth_of_parts (trees_of (drop l.part-index l.part-items)) < depth_of (tree_of l.node);
}
