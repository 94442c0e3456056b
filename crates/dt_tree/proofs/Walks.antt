-- the walk down to one element
use Rattle.std.proofs.Common.{◌≡◌, ℕ, ◌-◌, ◌*◌, ◌/◌, ◌%◌, ◌≤◌, ◌<◌, true, ℤ, pos, ◌+ℤ◌, ◌*ℤ◌, List, length, get_or, ap, ◌∙◌, subst, arith}
use Rattle.std.proofs.lemmas.List.{get_or-append_right}
use Rattle.dt_map.specs.declared.entry.Entry.{Entry}
use Rattle.dt_map.specs.Runs.{placed_at, even, run}
use Rattle.dt_map.specs.Typemap.{shift}
use Rattle.dt_map.proofs.Seats.{length-run}
use Rattle.dt_map.proofs.Summaries.{length-shift}
use Rattle.dt_tree.specs.declared.node.Node.{Node}
use Rattle.dt_tree.specs.declared.node.Node.TheVariants.{Vector, Index}
use Rattle.dt_tree.specs.declared.place.Place.{Place}
use Rattle.dt_tree.specs.Node.{tree_of}
use Rattle.dt_tree.specs.Place.{IsPlaceAt}
use Rattle.dt_tree.specs.Rule.{depth_of, numbers_fit, AreShort}
use Rattle.dt_tree.specs.Tree.{Tree, Parts, part, flat, flat_parts}
use Rattle.dt_tree.proofs.Amounts.{of_vector_number, of_index_number}
use Rattle.dt_tree.proofs.Entries.{within_copies, place_in_vector, place_of_copy}
use Rattle.dt_tree.proofs.Limits.{of_vector_fits, of_index_fits}
use Rattle.dt_tree.proofs.Nodes.{of_vector, of_index}

abbrev pub each_of : ℕ → Node → ℕ
each_of block child = block * length (flat (tree_of child))

-- what a step from a node to its child needs
pub record Walk (node child : Node) (n block k : ℕ) : Type 0 where
  pub some : 0 < each_of block child
  pub turn : k / each_of block child < n
  pub left : k % each_of block child < each_of block child
  pub total : k < n * each_of block child
  pub fits : numbers_fit (tree_of child) ≡ true
  pub short : AreShort (tree_of child)
  pub few : block ≤ 1024
  pub deep : depth_of (tree_of child) < depth_of (tree_of node)

pub vector_walk : (node : Node) (count block : ℕ) (stride : ℤ) (child : Node) (k : ℕ) → node ≡ Vector count block stride child → numbers_fit (tree_of node) ≡ true →
    AreShort (tree_of node) → k < length (flat (tree_of node)) → Walk node child count block k
vector_walk node count block stride child k is fit short within =
    let same = ap tree_of is ∙ of_vector count block stride child in
    let total : k < count * each_of block child = omega (arith, within, of_vector_number node count block stride child is) in
    let h = within_copies k count (each_of block child) total in
    let fits = of_vector_fits node count block stride child fit is in
    record {
      some = h.0;
      turn = h.1;
      left = h.2;
      total = total;
      fits = fits.child_fits;
      short = (subst AreShort same short).1;
      few = fits.block_fits.1;
      deep = omega (arith, ap depth_of same);
    }

pub index_walk : (node : Node) (block : ℕ) (places : List ℤ) (child : Node) (k : ℕ) → node ≡ Index block places child → numbers_fit (tree_of node) ≡ true →
    AreShort (tree_of node) → k < length (flat (tree_of node)) → Walk node child (length places) block k
index_walk node block places child k is fit short within =
    let same = ap tree_of is ∙ of_index block places child in
    let total : k < length places * each_of block child = omega (arith, within, of_index_number node block places child is) in
    let h = within_copies k (length places) (each_of block child) total in
    let fits = of_index_fits node block places child fit is in
    record {
      some = h.0;
      turn = h.1;
      left = h.2;
      total = total;
      fits = fits.child_fits;
      short = (subst AreShort same short).1;
      few = fits.block_fits.1;
      deep = omega (arith, ap depth_of same);
    }

-- the element that was found
module _ (block k turn left each : ℕ) (es : List Entry) (inner result : Place) (each_is : each ≡ length (run block es)) (left_is : left ≡ k % each) (turn_is : turn ≡ k / each)
    (at : IsPlaceAt (run block es) left inner) (kind : result.kind ≡ inner.kind) where
  in_left : IsPlaceAt (run block es) (k % length (run block es)) inner
  in_left = subst (λ i. IsPlaceAt (run block es) i inner) (left_is ∙ ap (λ n. k % n) each_is) at

  pub in_vector_place : (count : ℕ) (stride : ℤ) → k < count * each → result.disp ≡ inner.disp +ℤ (pos turn *ℤ stride) → IsPlaceAt (placed_at (even count stride) (run block es)) k result
  in_vector_place count stride total disp =
      place_in_vector count stride (run block es) k inner result (subst (λ n. k < count * n) each_is total) in_left kind
      (disp ∙ ap (λ t. inner.disp +ℤ (pos t *ℤ stride)) (turn_is ∙ ap (λ n. k / n) each_is))

  pub in_index_place : (places : List ℤ) → k < length places * each → result.disp ≡ inner.disp +ℤ get_or places turn (pos 0) → IsPlaceAt (placed_at places (run block es)) k result
  in_index_place places total disp =
      place_of_copy places (run block es) k inner result (subst (λ n. k < length places * n) each_is total) in_left kind
      (disp ∙ ap (λ t. inner.disp +ℤ get_or places t (pos 0)) (turn_is ∙ ap (λ n. k / n) each_is))

-- past one part
pub past_part : (block : ℕ) (disp : ℤ) (child : Tree) (rest : Parts) (k : ℕ) (d : Entry) → block * length (flat child) ≤ k →
    get_or (flat_parts (part block disp child rest)) k d ≡ get_or (flat_parts rest) (k - block * length (flat child)) d
past_part block disp child rest k d from =
    get_or-append_right (shift disp (run block (flat child))) (flat_parts rest) (block * length (flat child)) k d
    (length-shift disp (run block (flat child)) ∙ length-run block (flat child)) from
