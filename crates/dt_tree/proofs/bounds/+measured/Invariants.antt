use Rattle.std.proofs.Common.{◌≡◌, ◌<◌, true, max, drop}
use Rattle.std.specs.Option.{IsSome}
use Rattle.dt_map.specs.Bounds.{alignment}
use Rattle.dt_offsets.specs.Span.{joined_marks}
use Rattle.dt_map.specs.Span.{span_of}
use Rattle.dt_tree.specs.Node.{tree_of, trees_of}
use Rattle.dt_tree.specs.Rule.{depth_of, depth_of_parts, parts_fit, PartsShort}
use Rattle.dt_tree.specs.Tree.{flat, flat_parts}
use Rattle.dt_tree.proofs.bounds.+measured.Given as goal

abbrev pub decreases-measured : goal.decreases-measured
decreases-measured l = depth_of (tree_of l.node.now)

abbrev pub invariant-parts : goal.invariant-parts
invariant-parts l = record {
  span : joined_marks l.span (span_of (flat_parts (trees_of (drop l.part-index l.part-items)))) ≡ span_of (flat (tree_of l.node));
  align : max l.align (alignment (flat_parts (trees_of (drop l.part-index l.part-items)))) ≡ alignment (flat (tree_of l.node));
  fit : parts_fit (trees_of (drop l.part-index l.part-items)) ≡ true;
  shallow : depth_of_parts (trees_of (drop l.part-index l.part-items)) < depth_of (tree_of l.node);
  aligned : 0 < l.align;
  some : 0 < l.part-index → IsSome l.span;
  to_do : PartsShort (trees_of l.part-items) → PartsShort (trees_of (drop l.part-index l.part-items));
  done : PartsShort (trees_of (drop l.part-index l.part-items)) → PartsShort (trees_of l.part-items);
}
