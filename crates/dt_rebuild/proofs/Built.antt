-- the typemap of what is built
use Rattle.std.proofs.Common.{◌≡◌, ◌+ℤ◌, ◌-ℤ◌, ◌*ℤ◌, ℤ, pos, Option, None, Some, List, [], ◌∷◌, refl, ap, ◌∙◌, arith, append-nil, Result, Ok, Err, IfOk}
use Rattle.std.proofs.lemmas.Int.{ints}
use Rattle.dt_form.specs.declared.form.FormOf.{FormOf}
use Rattle.dt_map.specs.declared.entry.Entry.{Entry}
use Rattle.dt_map.specs.Runs.{natural_extent, run}
use Rattle.dt_map.specs.Typemap.{Marked, shift}
use Rattle.dt_map.proofs.Likeness.{shift-zero}
use Rattle.dt_offsets.specs.declared.marks.Marks.{Marks}
use Rattle.dt_type.specs.Datatype.{typemap_of}
use Rattle.dt_type.specs.Form.{result_of, map_by}
use Rattle.dt_tree.specs.Tree.{Tree, index, flat}
use Rattle.dt_type.specs.declared.datatype.Seen.{Seen}
use Rattle.dt_type.specs.declared.fault.CtorFault.{CtorFault}
use Rattle.dt_rebuild.specs.Answer.{IsAnswerOf}
use Rattle.dt_rebuild.specs.Built.{form_at, marked_by, built, placed_by, all_forms}
use Rattle.dt_rebuild.specs.Laws.{BuiltHasEntries}
use Rattle.dt_rebuild.proofs.Placing.{bare, with_marks, typemap_is, typemap_bare, node_places}

-- a block of one copy is the copy
pub run_of_one : (es : List Entry) → run 1 es ≡ es
run_of_one es = append-nil (shift (pos 0 *ℤ natural_extent es) es) ∙ (ap (λ x. shift x es) (none (natural_extent es)) ∙ shift-zero es)
  where
    none : (x : ℤ) → pos 0 *ℤ x ≡ pos 0
    none x = omega (arith, ints)

pub placed_at_base : (base : ℤ) (tree : Tree) → flat (index 1 (base ∷ []) tree) ≡ shift base (flat tree)
placed_at_base base tree = append-nil (shift base (run 1 (flat tree))) ∙ ap (shift base) (run_of_one (flat tree))

pub at_base_places : (base : ℤ) (tree : Tree) → map_by (form_at base (Some tree)) ≡ bare (shift base (flat tree))
at_base_places base tree = node_places (index 1 (base ∷ []) tree) ∙ ap bare (placed_at_base base tree)

-- marks round it
pub marked_places : (m : Marks) (form : FormOf Seen) (es : List Entry) → map_by form ≡ bare es → map_by (marked_by m form) ≡ with_marks es (Some m)
marked_places m form es h =
    ap (λ (s : Marked). with_marks s.entries (Some (record { lb = m.lb; ub = m.lb +ℤ (m.ub -ℤ m.lb) }))) (typemap_bare form es h)
    ∙ ap (λ x. with_marks es (Some (record { lb = m.lb; ub = x }))) (back m.lb m.ub)
  where
    back : (a b : ℤ) → a +ℤ (b -ℤ a) ≡ b
    back a b = omega (arith, ints)

pub typemap_marked : (form : FormOf Seen) (es : List Entry) (marks : Option Marks) → map_by form ≡ with_marks es marks → typemap_of (result_of form) ≡ with_marks es marks
typemap_marked form es marks h = typemap_is form ∙ ap (λ (m : Marked). with_marks m.entries m.marks) h

pub built_has_entries : BuiltHasEntries
built_has_entries base None None = typemap_bare (form_at base None) [] refl
built_has_entries base None (Some m) = typemap_marked (marked_by m (form_at base None)) [] (Some m) (marked_places m (form_at base None) [] refl)
built_has_entries base (Some tree) None = typemap_bare (form_at base (Some tree)) (shift base (flat tree)) (at_base_places base tree)
built_has_entries base (Some tree) (Some m) =
    typemap_marked (marked_by m (form_at base (Some tree))) (shift base (flat tree)) (Some m) (marked_places m (form_at base (Some tree)) (shift base (flat tree)) (at_base_places base tree))

pub answer_places : (base : ℤ) (tree : Option Tree) (marks : Option Marks) (answer : Result Seen CtorFault) → IsAnswerOf (all_forms base tree marks) (built base tree marks) answer →
    IfOk answer (λ t. typemap_of t ≡ placed_by base tree marks)
answer_places base tree marks (Ok t) h = ap typemap_of h.value ∙ built_has_entries base tree marks
answer_places base tree marks (Err fault) h = tt
