-- Each entry of a typemap in range is in range.
use Rattle.std.specs.Prelude.{◌≡◌, Option, Some, None, ℕ, zero, suc, ◌==◌, cond, Bool, true, false, ℤ, pos, ◌+ℤ◌, ◌≤ℤ◌, List, [], ◌∷◌, map, length, slice_get, slice_index_or, IfSome}
use Rattle.std.specs.List.{All, AllByRecursion}
use Rattle.std.specs.Option.{option_map}
use Rattle.std.proofs.Common.{sym, subst, arith}
use Rattle.std.proofs.lemmas.Int.{ints, clamps}
use Rattle.std.proofs.lemmas.Option.{slice_get-get_or}
use Rattle.dt_kinds.specs.Displacement.{FitsDisp}
use Rattle.dt_kinds.specs.Kind.{native_size}
use Rattle.dt_map.specs.declared.entry.Entry.{Entry}
use Rattle.dt_offsets.specs.declared.marks.Marks.{Marks}
use Rattle.dt_map.specs.Bounds.{end_of, true_lb, true_ub}
use Rattle.dt_map.specs.Limits.{EntryFits, MarksFit, Fits, IsInRange}
use Rattle.dt_offsets.specs.Span.{joined_marks}
use Rattle.dt_map.specs.Typemap.{Marked, shift_entry}
use Rattle.dt_map.specs.Span.{span_of, entry_span}
use Rattle.dt_map.proofs.Summaries.{true_span_is}

Holds : Entry → Option Marks → Type 0
Holds e None = ⊥
Holds e (Some s) = (s.lb ≤ℤ e.disp) × (end_of e ≤ℤ s.ub)

holds_first : (e : Entry) (s : Option Marks) → Holds e (joined_marks (entry_span e) s)
unfolding Holds
holds_first e None = (omega (arith, ints), omega (arith, ints))
holds_first e (Some s) = (omega (arith, ints, clamps), omega (arith, ints, clamps))

holds_later : (e f : Entry) (s : Option Marks) → Holds e s → Holds e (joined_marks (entry_span f) s)
unfolding Holds
holds_later e f None h = absurd h
holds_later e f (Some s) h = let a = h.0 in let b = h.1 in (omega (arith, ints, clamps), omega (arith, ints, clamps))

held : (es : List Entry) (k : ℕ) (e : Entry) → slice_get es k ≡ Some e → Holds e (span_of es)
held [] k e h = cc
held (f ∷ es) zero e h =
    let same : f ≡ e = cc in
    subst (λ (x : Entry). Holds x (joined_marks (entry_span f) (span_of es))) same (holds_first f (span_of es))
held (f ∷ es) (suc k) e h = holds_later e f (span_of es) (held es k e h)

entry_fits : (m : Marked) → IsInRange m → (k : ℕ) (e : Entry) → slice_get m.entries k ≡ Some e → EntryFits e
unfolding Holds
entry_fits m range k e h = cases (length m.entries == 0) (subst (Holds e) (sym (true_span_is m)) (held m.entries k e h))
  where
    between : (d n low high : ℤ) → FitsDisp low → FitsDisp high → pos 0 ≤ℤ n → low ≤ℤ d → (d +ℤ n) ≤ℤ high → FitsDisp d × FitsDisp (d +ℤ n)
    between d n low high a b c p q =
        let w = a.0 in let z = b.1 in ((omega (arith, ints), omega (arith, ints)), (omega (arith, ints), omega (arith, ints)))

    cases : (b : Bool) → Holds e (cond b None (Some (record { lb = true_lb m.entries; ub = true_ub m.entries }))) → EntryFits e
    cases true held = absurd held
    cases false held =
        between e.disp (pos (native_size e.kind)) (true_lb m.entries) (true_ub m.entries) range.true_lb range.true_ub (omega (arith, ints)) held.0 held.1

-- each entry of a typemap in range is
pub entries_fit : (m : Marked) → IsInRange m → All EntryFits m.entries
entries_fit m range k d lt = entry_fits m range k (slice_index_or m.entries k d) (slice_get-get_or m.entries k d lt)

pub marks_fit : (entries : List Entry) (marks : Option Marks) → (let m : Marked = record { entries = entries; marks = marks } in IsInRange m) → MarksFit marks
marks_fit entries None range = tt
marks_fit entries (Some marks) range = (range.lb, range.ub)

-- and so is all of it
pub typemap_fits : (m : Marked) (entries : List Entry) (marks : Option Marks) → IsInRange m → entries ≡ m.entries → marks ≡ m.marks → Fits (record { entries = entries; marks = marks })
typemap_fits m entries marks range same_entries same_marks =
    (subst (All EntryFits) (sym same_entries) (entries_fit m range), subst MarksFit (sym same_marks) (marks_fit m.entries m.marks range))

-- an entry of a copy
pub moved_fits : (m : Marked) → IsInRange m → (k : ℕ) (x : ℤ) (r : Option Entry) → slice_get m.entries k ≡ option_map (shift_entry x) r → IfSome r (λ e. FitsDisp (e.disp +ℤ x))
moved_fits m range k x None h = tt
moved_fits m range k x (Some e) h = (entry_fits m range k (shift_entry x e) h).0

pub all_of_map : {X Y : Type 0} (P : Y → Type 0) (f : X → Y) (xs : List X) → AllByRecursion P (map f xs) → AllByRecursion (λ x. P (f x)) xs
all_of_map P f [] h = tt
all_of_map P f (x ∷ xs) h = (h.0, all_of_map P f xs h.1)
