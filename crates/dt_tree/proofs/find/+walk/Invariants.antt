use Rattle.std.proofs.Common.{◌≡◌, ◌+◌, ◌*◌, ◌<◌, length, drop, get_or, true}
use Rattle.dt_map.specs.declared.entry.Entry.{Entry}
use Rattle.dt_tree.specs.Node.{tree_of, trees_of}
use Rattle.dt_tree.specs.Rule.{depth_of, depth_of_parts, parts_fit, PartsShort}
use Rattle.dt_tree.specs.Tree.{flat, flat_parts}
use Rattle.dt_tree.proofs.find.+walk.Given as goal

abbrev pub decreases-find : goal.decreases-find
decreases-find l = 2 * depth_of (tree_of l.node.now)

abbrev pub decreases-find_in_block : goal.decreases-find_in_block
decreases-find_in_block l = 2 * depth_of (tree_of l.node.now) + 1

abbrev pub invariant-find-parts : goal.invariant-find-parts
invariant-find-parts l = record {
  entry : (d : Entry) → get_or (flat_parts (trees_of (drop l.part-index l.part-items))) l.left d ≡ get_or (flat (tree_of l.node)) l.fn.k d;
  within : l.left < length (flat_parts (trees_of (drop l.part-index l.part-items)));
  fit : parts_fit (trees_of (drop l.part-index l.part-items)) ≡ true;
  short : PartsShort (trees_of (drop l.part-index l.part-items));
  shallow : depth_of_parts (trees_of (drop l.part-index l.part-items)) < depth_of (tree_of l.node);
}
