-- entries of copies, one by one
use Rattle.std.proofs.Common.{◌≡◌, ℕ, zero, suc, ◌+◌, ◌-◌, ◌*◌, ◌/◌, ◌%◌, ◌≤◌, ◌<◌, ℤ, pos, nat_abs, ◌+ℤ◌, ◌*ℤ◌, ◌≤ℤ◌, Option, Some, None, List, [], ◌∷◌, ◌++◌, map, take, length, get_or, slice_get, option_map, refl, sym, ap, ◌∙◌, subst, arith}
use Rattle.std.proofs.lemmas.Int.{ints, clamps}
use Rattle.std.proofs.lemmas.List.{get_or-map, get_or_append_left, get_or-append_right, map-append, take_more}
use Rattle.std.proofs.Math.IntN.{pos-*ℤ-pos}
use Rattle.std.proofs.Math.Nat.{mod-add-div, mod-lt, div-lt_iff_lt-mul}
use Rattle.dt_map.specs.declared.entry.Entry.{Entry}
use Rattle.dt_offsets.specs.declared.marks.Marks.{Marks}
use Rattle.dt_map.specs.Bounds.{end_of}
use Rattle.dt_offsets.specs.Span.{joined_marks}
use Rattle.dt_map.specs.Runs.{placed_at, even, run, natural_extent}
use Rattle.dt_map.specs.Span.{entry_span, span_of}
use Rattle.dt_map.specs.Summary.{ends_or_zero}
use Rattle.std.specs.Int.{int_min, int_max}
use Rattle.std.specs.Prelude.{◌↔◌}
use Rattle.dt_kinds.specs.declared.kind.Kind.{Kind}
use Rattle.dt_kinds.specs.declared.kind.Kind.TheVariants.{Byte}
use Rattle.dt_map.specs.Typemap.{shift, shift_entry}
use Rattle.dt_map.proofs.Seats.{length-even, get_or-even}
use Rattle.dt_map.proofs.Summaries.{length-shift, true_lb_is, true_ub_is}
use Rattle.dt_tree.specs.declared.place.Place.{Place}
use Rattle.dt_tree.specs.Place.{place_of, IsPlaceAt}
use Rattle.dt_tree.specs.Rule.{IsShort}

-- entry r of copy q
pub copy_entry : (places : List ℤ) (es : List Entry) (q r : ℕ) (d : Entry) → q < length places → r < length es →
    get_or (placed_at places es) (q * length es + r) d ≡ shift_entry (get_or places q (pos 0)) (get_or es r d)
copy_entry [] es q r d lt within = absurd (omega arith)
copy_entry (x ∷ xs) es zero r d lt within =
    let none : 0 * length es + r ≡ r = omega arith in
    ap (λ k. get_or (placed_at (x ∷ xs) es) k d) none
    ∙ (get_or_append_left (shift x es) (placed_at xs es) d r (omega (arith, length-shift x es)) ∙ get_or-map (shift_entry x) es r d d within)
copy_entry (x ∷ xs) es (suc q) r d lt within =
    let next : (suc q * length es + r) - length es ≡ q * length es + r = omega arith in
    get_or-append_right (shift x es) (placed_at xs es) (length es) (suc q * length es + r) d (length-shift x es) (omega arith)
    ∙ (ap (λ k. get_or (placed_at xs es) k d) next ∙ copy_entry xs es q r d (omega arith) within)

pub shifted_entry : (x : ℤ) (es : List Entry) (k : ℕ) (d : Entry) → k < length es → get_or (shift x es) k d ≡ shift_entry x (get_or es k d)
shifted_entry x es k d within = get_or-map (shift_entry x) es k d d within

-- counting through copies
pub within_copies : (k n each : ℕ) → k < n * each → (0 < each) × (k / each < n) × (k % each < each) × (k ≡ (k / each) * each + k % each)
within_copies k n zero lt = absurd (none n lt)
  where
    none : (n : ℕ) → k < n * 0 → ⊥
    none n h = omega (arith, h)
within_copies k n (suc each) lt = let below : (k / suc each < n) ↔ (k < n * suc each) = div-lt_iff_lt-mul (omega arith) in (
  omega arith,
  below.1 lt,
  mod-lt k (omega arith),
  omega (arith, mod-add-div k (suc each)),
)

-- places of copies
same_place : (k l : Kind) (x y : ℤ) → k ≡ l → x ≡ y → (let p : Place = record { kind = k; disp = x } in p) ≡ record { kind = l; disp = y }
same_place k l x y same_kind same_disp = cc

pub place_shifted : (x : ℤ) (e : Entry) (inner result : Place) → inner ≡ place_of e → result.kind ≡ inner.kind → result.disp ≡ inner.disp +ℤ x → result ≡ place_of (shift_entry x e)
place_shifted x e inner result is kind disp =
    same_place result.kind e.kind result.disp (e.disp +ℤ x) (kind ∙ ap (λ (p : Place). p.kind) is) (disp ∙ ap (λ (p : Place). p.disp +ℤ x) is)

pub place_of_copy : (places : List ℤ) (es : List Entry) (k : ℕ) (inner result : Place) → k < length places * length es → IsPlaceAt es (k % length es) inner →
    result.kind ≡ inner.kind → result.disp ≡ inner.disp +ℤ get_or places (k / length es) (pos 0) → IsPlaceAt (placed_at places es) k result
place_of_copy places es k inner result lt at kind disp = λ d.
    let h = within_copies k (length places) (length es) lt in
    place_shifted (get_or places (k / length es) (pos 0)) (get_or es (k % length es) d) inner result (at d) kind disp
    ∙ ap place_of (sym (copy_entry places es (k / length es) (k % length es) d h.1 h.2) ∙ ap (λ i. get_or (placed_at places es) i d) (sym h.3))

pub place_in_run : (block : ℕ) (es : List Entry) (k extent : ℕ) (inner result : Place) → k < block * length es → IsPlaceAt es (k % length es) inner →
    pos extent ≡ natural_extent es → result.kind ≡ inner.kind → result.disp ≡ inner.disp +ℤ pos ((k / length es) * extent) → IsPlaceAt (run block es) k result
place_in_run block es k extent inner result lt at step kind disp =
    let few = length-even block (natural_extent es) in
    let h = within_copies k block (length es) lt in
    place_of_copy (even block (natural_extent es)) es k inner result (subst (λ n. k < n * length es) (sym few) lt) at kind
    (disp ∙ ap (λ z. inner.disp +ℤ z) (sym (get_or-even block (natural_extent es) (k / length es) h.1 ∙ (ap (λ z. pos (k / length es) *ℤ z) (sym step) ∙ pos-*ℤ-pos (k / length es) extent))))

pub place_in_vector : (count : ℕ) (stride : ℤ) (es : List Entry) (k : ℕ) (inner result : Place) → k < count * length es → IsPlaceAt es (k % length es) inner →
    result.kind ≡ inner.kind → result.disp ≡ inner.disp +ℤ (pos (k / length es) *ℤ stride) → IsPlaceAt (placed_at (even count stride) es) k result
place_in_vector count stride es k inner result lt at kind disp =
    let few = length-even count stride in
    let h = within_copies k count (length es) lt in
    place_of_copy (even count stride) es k inner result (subst (λ n. k < n * length es) (sym few) lt) at kind
    (disp ∙ ap (λ z. inner.disp +ℤ z) (sym (get_or-even count stride (k / length es) h.1)))

pub place_in_part : (x : ℤ) (es rest : List Entry) (k : ℕ) (inner result : Place) → k < length es → IsPlaceAt es k inner →
    result.kind ≡ inner.kind → result.disp ≡ inner.disp +ℤ x → IsPlaceAt (shift x es ++ rest) k result
place_in_part x es rest k inner result lt at kind disp = λ d.
    place_shifted x (get_or es k d) inner result (at d) kind disp
    ∙ ap place_of (sym (get_or_append_left (shift x es) rest d k (omega (arith, lt, length-shift x es)) ∙ shifted_entry x es k d lt))

-- entries lie within the true bounds
end_after : (e : Entry) → e.disp ≤ℤ end_of e
end_after e = omega (arith, ints)

some_span : (es : List Entry) → 0 < length es → span_of es ≡ None → ⊥
some_span [] some h = absurd (omega arith)
some_span (e ∷ es) some h = joined_some (entry_span e) (span_of es) h
  where
    joined_some : (a b : Option Marks) → joined_marks (entry_span e) b ≡ None → ⊥
    joined_some a None h = cc
    joined_some a (Some b) h = cc

first_within : (e : Entry) (rest : Option Marks) (s : Marks) → joined_marks (entry_span e) rest ≡ Some s → (s.lb ≤ℤ e.disp) × (e.disp ≤ℤ s.ub)
first_within e None s is =
    let low : e.disp ≡ s.lb = ap (λ o. (ends_or_zero o).lb) is in
    let high : end_of e ≡ s.ub = ap (λ o. (ends_or_zero o).ub) is in
    let after = end_after e in
    (omega (arith, ints), omega (arith, ints))
first_within e (Some r) s is =
    let low : int_min e.disp r.lb ≡ s.lb = ap (λ o. (ends_or_zero o).lb) is in
    let high : int_max (end_of e) r.ub ≡ s.ub = ap (λ o. (ends_or_zero o).ub) is in
    let after = end_after e in
    (omega (arith, ints, clamps), omega (arith, ints, clamps))

rest_within : (e : Entry) (r s : Marks) (x : ℤ) → joined_marks (entry_span e) (Some r) ≡ Some s → (r.lb ≤ℤ x) × (x ≤ℤ r.ub) → (s.lb ≤ℤ x) × (x ≤ℤ s.ub)
rest_within e r s x is h =
    let low : int_min e.disp r.lb ≡ s.lb = ap (λ o. (ends_or_zero o).lb) is in
    let high : int_max (end_of e) r.ub ≡ s.ub = ap (λ o. (ends_or_zero o).ub) is in
    (omega (arith, ints, clamps, h.0), omega (arith, ints, clamps, h.1))

entry_within : (es : List Entry) (k : ℕ) (d : Entry) (s : Marks) → span_of es ≡ Some s → k < length es → (s.lb ≤ℤ (get_or es k d).disp) × ((get_or es k d).disp ≤ℤ s.ub)
entry_within [] k d s is lt = absurd (omega arith)
entry_within (e ∷ es) zero d s is lt = first_within e (span_of es) s is
entry_within (e ∷ es) (suc k) d s is lt =
    (elim (span_of es) as (λ o. span_of es ≡ o → (s.lb ≤ℤ (get_or es k d).disp) × ((get_or es k d).disp ≤ℤ s.ub)) [
      | None ↦ λ none. absurd (some_span es (omega arith) none)
      | Some r ↦ λ some. rest_within e r s (get_or es k d).disp (ap (joined_marks (entry_span e)) (sym some) ∙ is) (entry_within es k d r some (omega arith))
    ]) refl

pub short_entry : (es : List Entry) (k : ℕ) (d : Entry) → IsShort es → k < length es → nat_abs (get_or es k d).disp ≤ 1208925819614629174706176
short_entry es k d short lt =
    (elim (span_of es) as (λ o. span_of es ≡ o → nat_abs (get_or es k d).disp ≤ 1208925819614629174706176) [
      | None ↦ λ none. absurd (some_span es (omega arith) none)
      | Some s ↦ λ some.
          let low = true_lb_is es ∙ ap (λ o. (ends_or_zero o).lb) some in
          let high = true_ub_is es ∙ ap (λ o. (ends_or_zero o).ub) some in
          let within = entry_within es k d s some lt in
          omega (arith, ints, low, high, within.0, within.1, short.from, short.to)
    ]) refl

-- a place of a short list is near
pub short_place : (es : List Entry) (k : ℕ) (place : Place) → IsShort es → k < length es → IsPlaceAt es k place → nat_abs place.disp ≤ 1208925819614629174706176
short_place es k place short lt at =
    let d : Entry = record { kind = Byte; disp = pos 0 } in
    subst (λ (p : Place). nat_abs p.disp ≤ 1208925819614629174706176) (sym (at d)) (short_entry es k d short lt)

-- what a list has from a base on, one element more
pub listed_more : (xs : List Entry) (k : ℕ) (base : ℤ) (so_far next : List Place) (found moved : Place) → k < length xs → so_far ≡ map place_of (shift base (take k xs)) →
    IsPlaceAt xs k found → moved.kind ≡ found.kind → moved.disp ≡ found.disp +ℤ base → next ≡ so_far ++ moved ∷ [] → next ≡ map place_of (shift base (take (k + 1) xs))
listed_more xs k base so_far next found moved lt before at kind disp is =
    let d : Entry = record { kind = Byte; disp = pos 0 } in
    let e = get_or xs k d in
    is
    ∙ (ap (λ s. s ++ moved ∷ []) before
    ∙ (ap (λ p. map place_of (shift base (take k xs)) ++ p ∷ []) (place_shifted base e found moved (at d) kind disp)
    ∙ (sym (map-append place_of (shift base (take k xs)) (shift_entry base e ∷ []))
    ∙ ap (map place_of) (sym (map-append (shift_entry base) (take k xs) (e ∷ [])) ∙ ap (shift base) (sym (take_more xs k d lt))))))

pub slice_get_at : (xs : List Entry) (k : ℕ) (d : Entry) → k < length xs → slice_get xs k ≡ Some (get_or xs k d)
slice_get_at [] k d lt = absurd (omega arith)
slice_get_at (x ∷ xs) zero d lt = refl
slice_get_at (x ∷ xs) (suc k) d lt = slice_get_at xs k d (omega arith)

pub found_at : (xs : List Entry) (k : ℕ) (found : Place) → k < length xs → IsPlaceAt xs k found → Some found ≡ option_map place_of (slice_get xs k)
found_at xs k found lt at =
    let d : Entry = record { kind = Byte; disp = pos 0 } in
    ap Some (at d) ∙ ap (option_map place_of) (sym (slice_get_at xs k d lt))
