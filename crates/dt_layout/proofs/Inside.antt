-- Elements that lie inside a buffer aren't far from 0.
use Rattle.std.specs.Prelude.{◌≡◌, ℕ, ◌+◌, ◌^◌, ◌<◌, ◌≤◌, true, ℤ, pos, ◌+ℤ◌, ◌*ℤ◌, ◌≤ℤ◌, nat_abs, int_le, List, [], ◌∷◌, length, get_or}
use Rattle.std.specs.List.{AllByRecursion}
use Rattle.std.proofs.Common.{sym, ap, subst, ◌∙◌, arith}
use Rattle.std.proofs.lemmas.Bool.{and_parts}
use Rattle.std.proofs.lemmas.Int.{ints}
use Rattle.std.proofs.lemmas.Option.{get_or_from_slice_get}
use Rattle.std.proofs.Math.Nat.{mul_comm}
use Rattle.dt_map.specs.declared.entry.Entry.{Entry}
use Rattle.dt_map.specs.Bounds.{extent_of, end_of}
use Rattle.dt_map.specs.Elements.{elements, are_inside, lies_inside}
use Rattle.dt_map.specs.Limits.{IsInRange}
use Rattle.dt_map.specs.Typemap.{Marked, shift, shift_entry}
use Rattle.dt_map.proofs.Copies.{elements_are_placed}
use Rattle.dt_offsets.specs.Offsets.{row_offsets}
use Rattle.dt_offsets.proofs.GridAt.{pos_right, row_at}
use Rattle.dt_offsets.proofs.NearNumbers.{all_at}
use Rattle.dt_offsets.proofs.Reaches.{count-row}
use Rattle.dt_type.specs.Listing.{HaveDisps}
use Rattle.dt_type.proofs.Listings.{in_range_fits}
use Rattle.dt_type.proofs.ShapeNumbers.{all_more}
use Rattle.dt_layout.specs.Laws.{InsideIsClose}
use Rattle.dt_layout.proofs.All.{all_map, all_flat}
use Rattle.dt_layout.proofs.Copies.{shift_none}
use Rattle.dt_layout.proofs.Programs.{copies_in_row, length-elements}

-- an element in a buffer, as a number
IsHeld : ℕ → ℤ → Type 0
IsHeld len x = (pos 0 ≤ℤ x) × (x ≤ℤ pos len)

held : (len : ℕ) (e : Entry) → lies_inside len e ≡ true → IsHeld len e.disp
unfolding IsHeld
held len e inside =
    let both = and_parts (int_le (pos 0) e.disp) (int_le (end_of e) (pos len)) inside in
    let low = both.0 in
    let high = both.1 in
    (omega (arith, ints, low), omega (arith, ints, high))

all_held : (len : ℕ) (es : List Entry) → are_inside len es ≡ true → AllByRecursion (λ e. IsHeld len e.disp) es
all_held len [] inside = tt
all_held len (e ∷ es) inside =
    let both = and_parts (lies_inside len e) (are_inside len es) inside in
    (held len e both.0, all_held len es both.1)

moved : (m : Marked) (count : ℕ) (origin : ℤ) → elements m count origin ≡ shift origin (elements m count (pos 0))
moved m count origin =
    elements_are_placed m count origin ∙ ap (shift origin) (sym (shift_none _) ∙ sym (elements_are_placed m count (pos 0)))

module _ (m : Marked) (count len : ℕ) (origin : ℤ) (small : len ≤ 2 ^ 59) where
  abbrev es : List Entry
  es = elements m count (pos 0)

  -- the first entry of the first copy says how far the origin is
  near_first : (entries : List Entry) → HaveDisps entries → 0 < length entries → AllByRecursion (λ e. IsHeld len (e.disp +ℤ origin)) (shift (pos 0 +ℤ (pos 0 *ℤ extent_of m)) entries) → nat_abs origin ≤ len + 2 ^ 60
  unfolding IsHeld
  near_first [] fits some all = absurd (omega (arith, some))
  near_first (e ∷ entries) fits some all =
      let low = fits.0.0 in
      let high = fits.0.1 in
      let begin = all.0.0 in
      let end = all.0.1 in
      let none : pos 0 *ℤ extent_of m ≡ pos 0 = omega (arith, ints) in
      omega (arith, ints, none, low, high, begin, end)

  near_origin : IsInRange m → 0 < count → 0 < length m.entries → AllByRecursion (λ e. IsHeld len (e.disp +ℤ origin)) es → nat_abs origin ≤ len + 2 ^ 60
  near_origin range copies some all =
      let row = row_offsets (pos 0) count (extent_of m) in
      let P : ℤ → Type 0 = λ x. AllByRecursion (λ (e : Entry). IsHeld len (e.disp +ℤ origin)) (shift x m.entries) in
      let each = all_flat (λ (e : Entry). IsHeld len (e.disp +ℤ origin)) (λ x. shift x m.entries) row (subst (AllByRecursion (λ (e : Entry). IsHeld len (e.disp +ℤ origin))) (copies_in_row m count) all) in
      let long = count-row (pos 0) (extent_of m) count in
      let at : get_or row 0 (pos 0) ≡ pos 0 +ℤ (pos 0 *ℤ extent_of m) = get_or_from_slice_get row 0 (pos 0 +ℤ (pos 0 *ℤ extent_of m)) (pos 0) (row_at (pos 0) (extent_of m) count 0 copies) in
      near_first m.entries (in_range_fits m range) some (subst P at (all_at P row 0 (pos 0) each (omega (arith, long, copies))))

  far : (d : ℤ) → nat_abs origin ≤ len + 2 ^ 60 → IsHeld len (d +ℤ origin) → nat_abs d ≤ 2 ^ 61
  unfolding IsHeld
  far d near inside = let low = inside.0 in let high = inside.1 in omega (arith, ints, low, high, near, small)

  close : IsInRange m → 0 < count → 0 < length m.entries → are_inside len (elements m count origin) ≡ true → AllByRecursion (λ e. nat_abs e.disp ≤ 2 ^ 61) es
  close range copies some inside =
      let all = all_map (λ (e : Entry). IsHeld len e.disp) (shift_entry origin) es (subst (AllByRecursion (λ (e : Entry). IsHeld len e.disp)) (moved m count origin) (all_held len (elements m count origin) inside)) in
      let near = near_origin range copies some all in
      all_more (λ (e : Entry). IsHeld len (e.disp +ℤ origin)) (λ (e : Entry). nat_abs e.disp ≤ 2 ^ 61) (λ e h. far e.disp near h) es all

pub inside_is_close : InsideIsClose
inside_is_close m count len origin range small inside k d lt =
    let long = length-elements m count in
    let turned = mul_comm count (length m.entries) in
    let some = pos_right count (length m.entries) (omega (arith, long, lt)) in
    let copies = pos_right (length m.entries) count (omega (arith, long, lt, turned)) in
    all_at (λ (e : Entry). nat_abs e.disp ≤ 2 ^ 61) (elements m count (pos 0)) k d (close m count len origin small range copies some inside) lt
