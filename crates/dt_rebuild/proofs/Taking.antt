-- the constructors of a narrow tidy tree are all taken
use Rattle.std.proofs.Common.{◌≡◌, inl, inr, ℕ, ◌≤◌, ◌^◌, ◌+ℤ◌, ◌-ℤ◌, ◌≤ℤ◌, ℤ, pos, Option, None, Some, List, [], ◌∷◌, ◌++◌, length, refl, sym, ap, ◌∙◌, subst, arith}
use Rattle.std.proofs.lemmas.Int.{ints}
use Rattle.std.specs.List.{AllByRecursion}
use Rattle.dt_form.specs.declared.form.FormOf.{FormOf}
use Rattle.dt_map.specs.declared.entry.Entry.{Entry}
use Rattle.dt_map.specs.Bounds.{true_lb, true_ub, natural_ub}
use Rattle.dt_map.specs.Limits.{IsInRange}
use Rattle.dt_map.proofs.Extremes.{size_of-le}
use Rattle.dt_map.proofs.Seats.{segment_sits}
use Rattle.dt_offsets.specs.declared.marks.Marks.{Marks}
use Rattle.dt_type.specs.declared.datatype.Seen.{Seen}
use Rattle.dt_type.specs.Form.{weight_by, depth_by}
use Rattle.dt_tree.specs.Tidy.{IsTidy, AreTidy}
use Rattle.dt_tree.specs.Tree.{Tree, leaf, vector, index, group, Parts, no_parts, part, flat, IsTree, Denotes, IsBlockIn, IsBlockAmong, IsWithin}
use Rattle.dt_tree.proofs.Subtrees.{places_an_entry, subtrees_denote}
use Rattle.dt_tree.proofs.Tidying.{tidy_begins_at_zero}
use Rattle.dt_rebuild.specs.Answer.{IsTaken}
use Rattle.dt_rebuild.specs.Built.{form_of_tree, forms_in, forms_among, form_at, forms_around}
use Rattle.dt_rebuild.specs.Laws.{AreNarrow, TidyIsTaken}
use Rattle.dt_rebuild.proofs.Answering.{taken_both}
use Rattle.dt_rebuild.proofs.Asking.{takes_node, takes_at}
use Rattle.dt_rebuild.proofs.Built.{at_base_places, marked_places}
use Rattle.dt_rebuild.proofs.Depths.{shallow_by}
use Rattle.dt_rebuild.proofs.Measures.{as_deep, weighs, one_deeper, one_heavier}
use Rattle.dt_rebuild.proofs.Narrow.{sits_within, zero_within, rounded}
use Rattle.dt_rebuild.proofs.Placing.{bare, with_marks, node_places}

-- nodes within a tidy tree are tidy
mutual
  tidy_in : (n : ℕ) (node tree : Tree) → IsTidy tree → IsBlockIn n node tree → IsTidy node
  tidy_in n node (leaf kind) tidy within = absurd within
  tidy_in n node (vector count block stride child) tidy (inl same) = subst IsTidy (sym same.1) tidy.2
  tidy_in n node (vector count block stride child) tidy (inr within) = tidy_in n node child tidy.2 within
  tidy_in n node (index block places child) tidy (inl same) = subst IsTidy (sym same.1) tidy.2
  tidy_in n node (index block places child) tidy (inr within) = tidy_in n node child tidy.2 within
  tidy_in n node (group parts) tidy within = tidy_among n node parts tidy.2 within

  tidy_among : (n : ℕ) (node : Tree) (parts : Parts) → AreTidy parts → IsBlockAmong n node parts → IsTidy node
  tidy_among n node no_parts tidy within = absurd within
  tidy_among n node (part block disp child rest) tidy (inl (inl same)) = subst IsTidy (sym same.1) tidy.1
  tidy_among n node (part block disp child rest) tidy (inl (inr within)) = tidy_in n node child tidy.1 within
  tidy_among n node (part block disp child rest) tidy (inr within) = tidy_among n node rest tidy.2 within

tidy_within : (node tree : Tree) → IsTidy tree → IsWithin node tree → IsTidy node
tidy_within node tree tidy (inl same) = subst IsTidy (sym same) tidy
tidy_within node tree tidy (inr within) = tidy_in within.0 node tree tidy within.1

-- what holds of each node's constructor holds of all
module _ (P : FormOf Seen → Type 0) where
  all_both : (forms more : List (FormOf Seen)) → AllByRecursion P forms → AllByRecursion P more → AllByRecursion P (forms ++ more)
  all_both [] more all rest = rest
  all_both (form ∷ forms) more all rest = (all.0, all_both forms more all.1 rest)

  mutual
    each_in : (tree : Tree) → P (form_of_tree tree) → ((n : ℕ) (node : Tree) → IsBlockIn n node tree → P (form_of_tree node)) → AllByRecursion P (forms_in tree)
    each_in (leaf kind) here below = tt
    each_in (vector count block stride child) here below =
        all_both (forms_in child) (form_of_tree (vector count block stride child) ∷ [])
        (each_in child (below block child (inl (refl, refl))) (λ n node within. below n node (inr within))) (here, tt)
    each_in (index block places child) here below =
        all_both (forms_in child) (form_of_tree (index block places child) ∷ [])
        (each_in child (below block child (inl (refl, refl))) (λ n node within. below n node (inr within))) (here, tt)
    each_in (group parts) here below = all_both (forms_among parts) (form_of_tree (group parts) ∷ []) (each_among parts below) (here, tt)

    each_among : (parts : Parts) → ((n : ℕ) (node : Tree) → IsBlockAmong n node parts → P (form_of_tree node)) → AllByRecursion P (forms_among parts)
    each_among no_parts below = tt
    each_among (part block disp child rest) below =
        all_both (forms_in child) (forms_among rest)
        (each_in child (below block child (inl (inl (refl, refl)))) (λ n node within. below n node (inl (inr within))))
        (each_among rest (λ n node within. below n node (inr within)))

-- bounds in range, from the true ones
in_range : (es : List Entry) (low high : ℤ) → true_lb es ≡ low → true_ub es ≡ high → length es ≤ 1024 → ((pos 0 -ℤ pos (2 ^ 60)) ≤ℤ low) → (low ≤ℤ pos (2 ^ 60)) → ((pos 0 -ℤ pos (2 ^ 60)) ≤ℤ high) →
    (high ≤ℤ pos (2 ^ 60)) → natural_ub es ≤ℤ pos (2 ^ 60) → IsInRange (bare es)
in_range es low high is_low is_high few a b c d natural =
    let size = size_of-le es in
    let round = rounded es in
    record {
      lb = (omega (arith, ints, is_low, a), omega (arith, ints, is_low, b));
      ub = (omega (arith, ints, is_high, c, round.0), natural);
      true_lb = (omega (arith, ints, is_low, a), omega (arith, ints, is_low, b));
      true_ub = (omega (arith, ints, is_high, c), omega (arith, ints, is_high, d));
      size = omega (arith, size, few);
    }

-- a node of a tidy tree
module _ (base : ℤ) (tree : Tree) (m : List Entry) (denotes : Denotes tree base m) (tidy : IsTidy tree) (narrow : AreNarrow m) where
  node_fits : (node : Tree) → IsWithin node tree → IsInRange (bare (flat node)) × (length (flat node) ≤ 1024) × IsTree node
  node_fits node within =
      let stands = subtrees_denote tree node base m denotes within in
      let ok : IsTree node = stands.3.0 in
      let some = places_an_entry node ok in
      let sits = segment_sits m stands.1 (flat node) stands.0 (length (flat node)) stands.2 (sym stands.3.1) in
      let around = sits_within sits some in
      let zero = zero_within (flat node) some (tidy_begins_at_zero node ok (tidy_within node tree tidy within)) in
      let few : length (flat node) ≤ 1024 = let inside = stands.2 in let n = narrow.few in omega arith in
      let round = rounded (flat node) in
      let span = narrow.span in
      let low : (pos 0 -ℤ pos (2 ^ 60)) ≤ℤ true_lb (flat node) = omega (arith, ints, around.0, around.1, zero.0, zero.1, span) in
      let high : (true_ub (flat node) +ℤ pos 7) ≤ℤ pos (2 ^ 60) = omega (arith, ints, around.0, around.1, zero.0, zero.1, span) in (
        in_range (flat node) (true_lb (flat node)) (true_ub (flat node)) refl refl few low (omega (arith, ints, zero.0)) (omega (arith, ints, zero.1)) (omega (arith, ints, high))
            (omega (arith, ints, round.1, high)),
        few,
        ok,
      )

  node_taken : (node : Tree) → IsWithin node tree → IsTaken (form_of_tree node)
  node_taken node within =
      let fits = node_fits node within in
      let tidy_node = tidy_within node tree tidy within in
      let deep = shallow_by node fits.2 tidy_node fits.1 in
      let same = as_deep node in
      let heavy = weighs node fits.2 tidy_node in
      let few = fits.1 in
      record {
        arguments = takes_node node;
        allowed = record { in_range = subst IsInRange (sym (node_places node)) fits.0; shallow = omega arith; light = omega arith };
      }

  inner_taken : AllByRecursion IsTaken (forms_in tree)
  inner_taken = each_in IsTaken tree (node_taken tree (inl refl)) (λ n node within. node_taken node (inr (n, within)))

  base_limits : (depth_by (form_at base (Some tree)) ≤ 22) × (weight_by (form_at base (Some tree)) ≤ 4096)
  base_limits =
      let root = node_fits tree (inl refl) in
      let few = root.1 in
      let deep = shallow_by tree root.2 tidy few in
      let same = as_deep tree in
      let deeper = one_deeper (form_of_tree tree) in
      let heavy = weighs tree root.2 tidy in
      let heavier = one_heavier (form_of_tree tree) in
      (omega (arith, deep, same, deeper), omega (arith, heavy, heavier, few))

  -- its base
  base_taken : (marks : Option Marks) → IsInRange (with_marks m marks) → IsTaken (form_at base (Some tree))
  base_taken marks fits =
      let few = narrow.few in
      let limits = base_limits in
      let whole = in_range m (true_lb m) (true_ub m) refl refl few fits.true_lb.0 fits.true_lb.1 fits.true_ub.0 fits.true_ub.1 narrow.natural in
      record {
        arguments = takes_at base (Some tree);
        allowed = record {
          in_range = subst IsInRange (sym (at_base_places base tree ∙ ap bare denotes.1)) whole;
          shallow = omega (arith, limits.0);
          light = omega (arith, limits.1);
        };
      }

  -- and its marks
  marks_taken : (marks : Option Marks) → IsInRange (with_marks m marks) → AllByRecursion IsTaken (forms_around marks (form_at base (Some tree)))
  marks_taken None fits = tt
  marks_taken (Some marks) fits =
      let limits = base_limits in
      let deeper = one_deeper (form_at base (Some tree)) in
      let heavier = one_heavier (form_at base (Some tree)) in (
        record {
          arguments = refl;
          allowed = record {
            in_range = subst IsInRange (sym (marked_places marks (form_at base (Some tree)) m (at_base_places base tree ∙ ap bare denotes.1))) fits;
            shallow = omega (arith, limits.0, deeper);
            light = omega (arith, limits.1, heavier);
          };
        },
        tt,
      )

pub tidy_is_taken : TidyIsTaken
tidy_is_taken base tree marks m denotes tidy fits narrow =
    taken_both (forms_in tree) (form_at base (Some tree) ∷ forms_around marks (form_at base (Some tree))) (inner_taken base tree m denotes tidy narrow)
    (base_taken base tree m denotes tidy narrow marks fits, marks_taken base tree m denotes tidy narrow marks fits)
