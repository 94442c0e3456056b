-- the measures of nodes, one node at a time
use Rattle.std.proofs.Common.{◌≡◌, ℕ, max, ℤ, Option, Some, None, List, sym, ap, ◌∙◌, subst, arith}
use Rattle.dt_kinds.specs.declared.kind.Kind.{Kind}
use Rattle.dt_offsets.specs.declared.marks.Marks.{Marks}
use Rattle.dt_map.specs.Bounds.{alignment}
use Rattle.dt_offsets.specs.Span.{joined_marks}
use Rattle.dt_map.specs.Runs.{placed_at, even, run}
use Rattle.dt_map.specs.Span.{entry_span, span_of}
use Rattle.dt_map.specs.Typemap.{shift}
use Rattle.dt_map.proofs.Extremes.{alignment-append}
use Rattle.dt_offsets.proofs.Spans.{spans-append, joined_marks_assoc}
use Rattle.dt_tree.specs.declared.measure.Measure.{Measure}
use Rattle.dt_tree.specs.declared.node.Node.{Node}
use Rattle.dt_tree.specs.declared.node.Node.TheVariants.{Leaf, Vector, Index, Group}
use Rattle.dt_tree.specs.declared.node.PartOf.{PartOf}
use Rattle.dt_tree.specs.Measure.{IsClose, IsMeasure, IsShortMeasure, IsMeasured}
use Rattle.dt_tree.specs.Node.{tree_of, trees_of}
use Rattle.dt_tree.specs.Rule.{IsShort, AreShort, PartsShort}
use Rattle.dt_tree.specs.Tree.{Tree, leaf, vector, index, group, Parts, part, flat, flat_parts}
use Rattle.dt_tree.proofs.Nodes.{of_leaf, of_vector, of_index, of_group}

-- a measure of the one node whose children are short
node_measured : (tree : Tree) (result : Option Measure) → (IsShort (flat tree) → AreShort tree) → (AreShort tree → IsShort (flat tree)) → IsShortMeasure (flat tree) result → IsMeasured tree result
node_measured tree None to from h = λ short. h (from short)
node_measured tree (Some m) to from h = (to h.0, h.1, h.2)

pub leaf_measured : (node : Node) (kind : Kind) (m : Measure) → node ≡ Leaf kind → IsMeasure (flat (leaf kind)) m.span m.align → IsClose m.span → IsMeasured (tree_of node) (Some m)
leaf_measured node kind m is h close = subst (λ t. IsMeasured t (Some m)) (sym (ap tree_of is ∙ of_leaf kind)) (tt, h, close)

pub vector_measured : (node : Node) (count block : ℕ) (stride : ℤ) (child : Node) (result : Option Measure) → node ≡ Vector count block stride child → AreShort (tree_of child) →
    IsShortMeasure (placed_at (even count stride) (run block (flat (tree_of child)))) result → IsMeasured (tree_of node) result
vector_measured node count block stride child result is below h =
    subst (λ t. IsMeasured t result) (sym (ap tree_of is ∙ of_vector count block stride child))
    (node_measured (vector count block stride (tree_of child)) result (λ short. (short, below)) (λ all. all.0) h)

pub vector_far : (node : Node) (count block : ℕ) (stride : ℤ) (child : Node) → node ≡ Vector count block stride child → (AreShort (tree_of child) → ⊥) → AreShort (tree_of node) → ⊥
vector_far node count block stride child is far all = far ((subst AreShort (ap tree_of is ∙ of_vector count block stride child) all).1)

pub index_measured : (node : Node) (block : ℕ) (places : List ℤ) (child : Node) (result : Option Measure) → node ≡ Index block places child → AreShort (tree_of child) →
    IsShortMeasure (placed_at places (run block (flat (tree_of child)))) result → IsMeasured (tree_of node) result
index_measured node block places child result is below h =
    subst (λ t. IsMeasured t result) (sym (ap tree_of is ∙ of_index block places child))
    (node_measured (index block places (tree_of child)) result (λ short. (short, below)) (λ all. all.0) h)

pub index_far : (node : Node) (block : ℕ) (places : List ℤ) (child : Node) → node ≡ Index block places child → (AreShort (tree_of child) → ⊥) → AreShort (tree_of node) → ⊥
index_far node block places child is far all = far ((subst AreShort (ap tree_of is ∙ of_index block places child) all).1)

pub group_measured : (node : Node) (parts : List (PartOf Node)) (result : Option Measure) → node ≡ Group parts → PartsShort (trees_of parts) →
    IsShortMeasure (flat (tree_of node)) result → IsMeasured (tree_of node) result
group_measured node parts result is below h =
    let same : tree_of node ≡ group (trees_of parts) = ap tree_of is ∙ of_group parts in
    subst (λ t. IsMeasured t result) (sym same)
    (node_measured (group (trees_of parts)) result (λ short. (short, below)) (λ all. all.0) (subst (λ t. IsShortMeasure (flat t) result) same h))

pub group_far : (node : Node) (parts : List (PartOf Node)) (rest : Parts) (block : ℕ) (disp : ℤ) (child : Tree) (after : Parts) → node ≡ Group parts →
    (PartsShort (trees_of parts) → PartsShort rest) → rest ≡ part block disp child after → (AreShort child → ⊥) → AreShort (tree_of node) → ⊥
group_far node parts rest block disp child after is down here far all =
    far ((subst PartsShort here (down ((subst AreShort (ap tree_of is ∙ of_group parts) all).1))).0)

-- one part more
pub part_span : (so_far next : Option Marks) (here : Marks) (rest : Parts) (block : ℕ) (disp : ℤ) (child : Tree) (after : Parts) (whole : Option Marks) →
    rest ≡ part block disp child after → span_of (shift disp (run block (flat child))) ≡ Some here → next ≡ joined_marks so_far (Some here) →
    joined_marks so_far (span_of (flat_parts rest)) ≡ whole → joined_marks next (span_of (flat_parts after)) ≡ whole
part_span so_far next here rest block disp child after whole is span joins h =
    ap (λ s. joined_marks s (span_of (flat_parts after))) joins
    ∙ (joined_marks_assoc so_far (Some here) (span_of (flat_parts after))
    ∙ (ap (λ s. joined_marks so_far (joined_marks s (span_of (flat_parts after)))) (sym span)
    ∙ (ap (joined_marks so_far) (sym (spans-append entry_span (shift disp (run block (flat child))) (flat_parts after)))
    ∙ (ap (λ p. joined_marks so_far (span_of (flat_parts p))) (sym is) ∙ h))))

pub part_align : (so_far here : ℕ) (rest : Parts) (block : ℕ) (disp : ℤ) (child : Tree) (after : Parts) (whole : ℕ) →
    rest ≡ part block disp child after → alignment (shift disp (run block (flat child))) ≡ here →
    max so_far (alignment (flat_parts rest)) ≡ whole → max (max here so_far) (alignment (flat_parts after)) ≡ whole
part_align so_far here rest block disp child after whole is align h =
    omega (arith, h, align, ap (λ p. alignment (flat_parts p)) is, alignment-append (shift disp (run block (flat child))) (flat_parts after))
