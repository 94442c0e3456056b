-- Rows whose elements lie inside a buffer.
use Rattle.std.proofs.Common.{◌≡◌, ℕ, zero, suc, ◌+◌, ◌-◌, ◌*◌, ◌<◌, Bool, true, ◌&&◌, ℤ, pos, ◌+ℤ◌, ◌*ℤ◌, ◌≤ℤ◌, List, [], ◌∷◌, map, inl, inr, refl, sym, ap, ◌∙◌, arith}
use Rattle.std.specs.Prelude.{int_le}
use Rattle.std.specs.List.{flat_map, list_all}
use Rattle.std.proofs.lemmas.Bool.{cases_lt, and_parts}
use Rattle.std.proofs.lemmas.Int.{ints}
use Rattle.std.proofs.lemmas.List.Folds.{list_all-append, list_all-map}
use Rattle.dt_kinds.specs.Kind.{native_size}
use Rattle.dt_map.specs.declared.entry.Entry.{Entry}
use Rattle.dt_map.specs.Bounds.{end_of}
use Rattle.dt_map.specs.Elements.{are_inside, lies_inside}
use Rattle.dt_map.specs.Typemap.{shift, shift_entry}
use Rattle.dt_offsets.specs.Offsets.{below}
use Rattle.dt_rows.specs.declared.rows.Rows.{Rows}
use Rattle.dt_rows.specs.Pieces.{IsPiece}
use Rattle.dt_rows.specs.Rows.{element_at, adjacent, elements_of_rows}

-- what holds of all numbers below a number, or of all that is joined
all_below : (p : ℕ → Bool) (n j : ℕ) → list_all p (below n) ≡ true → j < n → p j ≡ true
all_below p zero j all lt = absurd (omega arith)
all_below p (suc n) j all lt =
    let parts = and_parts (list_all p (below n)) (list_all p (n ∷ [])) (sym (list_all-append p (below n) (n ∷ [])) ∙ all) in
    elim (cases_lt j n) [
      | inl less ↦ all_below p n j parts.0 less
      | inr from ↦ (let same : j ≡ n = omega arith in ap p same ∙ (and_parts (p n) true parts.1).0)
    ]

all_joined : {X Y : Type 0} (p : Y → Bool) (f : X → List Y) (xs : List X) → list_all p (flat_map f xs) ≡ list_all (λ x. list_all p (f x)) xs
all_joined p f [] = refl
all_joined p f (x ∷ xs) = list_all-append p (f x) (flat_map f xs) ∙ ap (λ b. list_all p (f x) && b) (all_joined p f xs)

-- an element of rows lies inside
element_inside : (len : ℕ) (r : Rows) (origin : ℤ) (i j : ℕ) → are_inside len (shift origin (elements_of_rows r)) ≡ true → i < r.rows → j < r.run.elements
    → lies_inside len (shift_entry origin (element_at r.run.kind ((r.run.disp +ℤ (pos i *ℤ r.step)) +ℤ (pos j *ℤ pos (native_size r.run.kind))))) ≡ true
element_inside len r origin i j all row within =
    let kind = r.run.kind in
    let p : Entry → Bool = λ e. lies_inside len (shift_entry origin e) in
    let adj = adjacent kind r.run.elements in
    let at : ℕ → ℤ = λ i. r.run.disp +ℤ (pos i *ℤ r.step) in
    let on : ℕ → ℤ = λ j. at i +ℤ (pos j *ℤ pos (native_size kind)) in
    let plain = sym (list_all-map (lies_inside len) (shift_entry origin) (elements_of_rows r)) ∙ all in
    let by_row = sym (all_joined p adj (map at (below r.rows))) ∙ plain in
    let by_number = sym (list_all-map (λ x. list_all p (adj x)) at (below r.rows)) ∙ by_row in
    let here = all_below (λ i. list_all p (adj (at i))) r.rows i by_number row in
    let by_place = sym (list_all-map p (element_at kind) (map on (below r.run.elements))) ∙ here in
    let by_element = sym (list_all-map (λ x. p (element_at kind x)) on (below r.run.elements)) ∙ by_place in
    all_below (λ j. p (element_at kind (on j))) r.run.elements j by_element within

-- an element that lies inside lies there as numbers say
pub bounds_of_inside : (len : ℕ) (e : Entry) → lies_inside len e ≡ true → (pos 0 ≤ℤ e.disp) × ((e.disp +ℤ pos (native_size e.kind)) ≤ℤ pos len)
bounds_of_inside len e inside =
    let parts = and_parts (int_le (pos 0) e.disp) (int_le (end_of e) (pos len)) inside in
    (grind (arith, ints, parts.0), grind (arith, ints, parts.1))

one_more_of : (k s : ℕ) → suc k * s ≡ k * s + s
one_more_of k s = omega arith

-- a row lies inside
pub row_inside : (len : ℕ) (r : Rows) (origin start : ℤ) → are_inside len (shift origin (elements_of_rows r)) ≡ true → 0 < r.run.elements → start ≡ r.run.disp +ℤ origin
    → (i : ℕ) → i < r.rows → IsPiece len (r.run.elements * native_size r.run.kind) (start +ℤ (pos i *ℤ r.step))
row_inside len r origin start all some is i row =
    let s = native_size r.run.kind in
    let element : ℕ → Entry = λ j. shift_entry origin (element_at r.run.kind ((r.run.disp +ℤ (pos i *ℤ r.step)) +ℤ (pos j *ℤ pos s))) in
    let first = bounds_of_inside len (element 0) (element_inside len r origin i 0 all row some) in
    let last = bounds_of_inside len (element (r.run.elements - 1)) (element_inside len r origin i (r.run.elements - 1) all row (omega arith)) in
    let from : pos 0 ≤ℤ (start +ℤ (pos i *ℤ r.step)) = omega (arith, ints, first.0, is) in
    let count : r.run.elements * s ≡ (r.run.elements - 1) * s + s = ap (λ n. n * s) (let more : r.run.elements ≡ suc (r.run.elements - 1) = omega arith in more) ∙ one_more_of (r.run.elements - 1) s in
    record {
      from = from;
      within = omega (arith, ints, last.1, is, from, count);
    }
