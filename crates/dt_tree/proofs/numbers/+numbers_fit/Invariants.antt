use Rattle.std.proofs.Common.{◌≡◌, ◌<◌, ◌&&◌, drop}
use Rattle.dt_tree.specs.Node.{tree_of, trees_of}
use Rattle.dt_tree.specs.Rule.{depth_of, depth_of_parts, numbers_fit, parts_fit}
use Rattle.dt_tree.proofs.numbers.+numbers_fit.Given as goal

abbrev pub decreases-numbers_fit : goal.decreases-numbers_fit
decreases-numbers_fit l = depth_of (tree_of l.node.now)

abbrev pub invariant-parts : goal.invariant-parts
invariant-parts l = record {
  fit : (l.fit && parts_fit (trees_of (drop l.part-index l.part-items))) ≡ numbers_fit (tree_of l.node);
  shallow : depth_of_parts (trees_of (drop l.part-index l.part-items)) < depth_of (tree_of l.node);
}
