use Rattle.std.proofs.Common.{◌≡◌, ◌<◌, ◌++◌, drop, true}
use Rattle.std.specs.List.{AllByRecursion}
use Rattle.dt_tree.specs.Node.{tree_of, trees_of}
use Rattle.dt_tree.specs.Rule.{depth_of, depth_of_parts, parts_fit}
use Rattle.dt_rebuild.specs.Answer.{IsTaken, IsRefusalIn}
use Rattle.dt_rebuild.specs.Built.{forms_among, typed}
use Rattle.dt_rebuild.proofs.nodes.+type_of.Given as goal

abbrev pub decreases-type_of : goal.decreases-type_of
decreases-type_of l = depth_of (tree_of l.node.now)

abbrev pub invariant-parts : goal.invariant-parts
invariant-parts l = record {
  fit : parts_fit (trees_of (drop l.part-index l.part-items)) ≡ true;
  shallow : depth_of_parts (trees_of (drop l.part-index l.part-items)) < depth_of (tree_of l.node);
  typed : l.list.items ++ typed (trees_of (drop l.part-index l.part-items)) ≡ typed (trees_of l.part-items);
  taken : AllByRecursion IsTaken (forms_among (trees_of (drop l.part-index l.part-items))) → AllByRecursion IsTaken (forms_among (trees_of l.part-items));
  refused : (fault : _) → IsRefusalIn (forms_among (trees_of (drop l.part-index l.part-items))) fault → IsRefusalIn (forms_among (trees_of l.part-items)) fault;
}
