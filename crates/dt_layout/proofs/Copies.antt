-- Copies of copies, and copies further on.
use Rattle.std.specs.Prelude.{◌≡◌, ℕ, ◌+◌, ◌*◌, ◌^◌, ◌<◌, ◌≤◌, ℤ, pos, ◌+ℤ◌, nat_abs, List, [], ◌∷◌, ◌++◌, map, length}
use Rattle.std.specs.List.{AllByRecursion, flat_map}
use Rattle.std.proofs.Common.{refl, sym, ap, subst, ◌∙◌, arith, append-nil}
use Rattle.std.proofs.lemmas.Grind.{flat_map-append}
use Rattle.std.proofs.lemmas.Int.{ints}
use Rattle.std.proofs.lemmas.List.Folds.{flat_map-map}
use Rattle.dt_kinds.specs.declared.kind.Rep.{Rep}
use Rattle.dt_map.specs.declared.entry.Entry.{Entry}
use Rattle.dt_map.specs.Packed.{total}
use Rattle.dt_map.specs.Typemap.{shift, shift_entry}
use Rattle.dt_map.proofs.Copies.{total-append, total-shift}
use Rattle.dt_map.proofs.Placings.{shift-shift, shift-append}
use Rattle.dt_offsets.specs.declared.turns.Turns.{Turns}
use Rattle.dt_offsets.specs.Offsets.{sums, turn_offsets, grid_offsets}
use Rattle.dt_type.specs.Listing.{entries_at, HaveDisps}
use Rattle.dt_type.proofs.ShapeNumbers.{all_more}
use Rattle.dt_layout.specs.Written.{AreClose}
use Rattle.dt_layout.proofs.All.{all_flat}

pub flat_same : (f g : ℤ → List Entry) → ((y : ℤ) → f y ≡ g y) → (ys : List ℤ) → flat_map f ys ≡ flat_map g ys
flat_same f g same [] = refl
flat_same f g same (y ∷ ys) = ap (λ s. s ++ flat_map f ys) (same y) ∙ ap (λ s. g y ++ s) (flat_same f g same ys)

-- no further on
pub shift_none : (es : List Entry) → shift (pos 0) es ≡ es
shift_none [] = refl
shift_none (e ∷ es) =
    let here : shift_entry (pos 0) e ≡ e = ap (λ d. let r : Entry = record { kind = e.kind; disp = d } in r) (omega (arith, ints)) in
    ap (λ f. f ∷ shift (pos 0) es) here ∙ ap (λ s. e ∷ s) (shift_none es)

pub copies_at_none : (es : List Entry) → entries_at (pos 0 ∷ []) es ≡ es
copies_at_none es = append-nil (shift (pos 0) es) ∙ shift_none es

pub moved_copies : (x : ℤ) (ys : List ℤ) (es : List Entry) → flat_map (λ y. shift (x +ℤ y) es) ys ≡ shift x (entries_at ys es)
moved_copies x [] es = refl
moved_copies x (y ∷ ys) es =
    let turned : x +ℤ y ≡ y +ℤ x = omega (arith, ints) in
    ap (λ z. shift z es ++ flat_map (λ y. shift (x +ℤ y) es) ys) turned
    ∙ ap (λ s. s ++ flat_map (λ y. shift (x +ℤ y) es) ys) (sym (shift-shift x y es))
    ∙ ap (λ s. shift x (shift y es) ++ s) (moved_copies x ys es)
    ∙ sym (shift-append x (shift y es) (entries_at ys es))

pub copies_of_copies : (xs ys : List ℤ) (es : List Entry) → entries_at xs (entries_at ys es) ≡ entries_at (sums xs ys) es
copies_of_copies [] ys es = refl
copies_of_copies (x ∷ xs) ys es =
    ap (λ s. s ++ entries_at xs (entries_at ys es)) (sym (moved_copies x ys es) ∙ sym (flat_map-map (λ z. shift z es) (λ y. x +ℤ y) ys))
    ∙ ap (λ s. entries_at (map (λ y. x +ℤ y) ys) es ++ s) (copies_of_copies xs ys es)
    ∙ sym (flat_map-append (λ z. shift z es) (map (λ y. x +ℤ y) ys) (sums xs ys))

pub grid_of_grids : (ts us : List Turns) (es : List Entry) → entries_at (grid_offsets (ts ++ us)) es ≡ entries_at (grid_offsets ts) (entries_at (grid_offsets us) es)
grid_of_grids [] us es = sym (copies_at_none (entries_at (grid_offsets us) es))
grid_of_grids (t ∷ ts) us es =
    sym (copies_of_copies (turn_offsets t) (grid_offsets (ts ++ us)) es)
    ∙ ap (entries_at (turn_offsets t)) (grid_of_grids ts us es)
    ∙ copies_of_copies (turn_offsets t) (grid_offsets ts) (entries_at (grid_offsets us) es)

-- the packed bytes of copies
pub total_flat : (rep : Rep) (f : ℤ → List Entry) (n : ℕ) → ((y : ℤ) → total rep (f y) ≡ n) → (ys : List ℤ) → total rep (flat_map f ys) ≡ length ys * n
total_flat rep f n each [] = omega arith
total_flat rep f n each (y ∷ ys) = let here = each y in let rest = total_flat rep f n each ys in let parts = total-append rep (f y) (flat_map f ys) in omega (arith, here, rest, parts)

pub total_copies : (rep : Rep) (ys : List ℤ) (es : List Entry) → total rep (entries_at ys es) ≡ length ys * total rep es
total_copies rep ys es = total_flat rep (λ y. shift y es) (total rep es) (λ y. total-shift rep y es) ys

-- entries in range that are close stand at a place that isn't far
abbrev pub IsPlace : ℤ → Type 0
IsPlace x = nat_abs x ≤ 2 ^ 61 + 2 ^ 60

pub close_place : (x : ℤ) (es : List Entry) → 0 < length es → HaveDisps es → AreClose (shift x es) → IsPlace x
close_place x [] some fits close = absurd (omega arith)
close_place x (e ∷ es) some fits close = let here = close.0 in let low = fits.0.0 in let high = fits.0.1 in omega (arith, ints)

-- so do copies of them
pub close_copies : (x : ℤ) (ys : List ℤ) (es : List Entry) → AreClose (shift x (entries_at ys es)) → AllByRecursion (λ y. AreClose (shift (x +ℤ y) es)) ys
close_copies x ys es close =
    all_flat (λ (e : Entry). nat_abs e.disp ≤ 2 ^ 61) (λ y. shift (x +ℤ y) es) ys (subst AreClose (sym (moved_copies x ys es)) close)

pub close_places : (x : ℤ) (ys : List ℤ) (es : List Entry) → 0 < length es → HaveDisps es → AreClose (shift x (entries_at ys es)) → AllByRecursion (λ y. IsPlace (x +ℤ y)) ys
close_places x ys es some fits close = all_more _ _ (λ y h. close_place (x +ℤ y) es some fits h) ys (close_copies x ys es close)
