-- spans of places, and of copies at them
use Rattle.std.proofs.Common.{◌≡◌, ℕ, zero, suc, ◌+◌, ◌-◌, ◌≤◌, ◌<◌, Bool, true, false, ◌&&◌, inl, inr, ℤ, pos, nat_abs, ◌+ℤ◌, ◌*ℤ◌, Option, Some, None, List, [], ◌∷◌, map, length, drop, get_or, refl, sym, ap, ◌∙◌, arith}
use Rattle.std.proofs.lemmas.Int.{ints, clamps, to_z-of_z}
use Rattle.std.proofs.lemmas.List.{at_drop_more, at_drop_all}
use Rattle.std.proofs.lemmas.Bool.Decides.{leb_tells}
use Rattle.std.specs.Int.{int_min, int_max}
use Rattle.std.specs.List.{list_all}
use lib.Signed.{mag}
use mir.Syntax.{w128}
use mir.Val.{to_z, of_z}
use Rattle.dt_map.specs.declared.entry.Entry.{Entry}
use Rattle.dt_offsets.specs.declared.marks.Marks.{Marks}
use Rattle.dt_offsets.specs.Offsets.{below}
use Rattle.dt_map.specs.Typemap.{shift}
use Rattle.dt_offsets.specs.Span.{shift_marks, joined_marks, point, reach_of, stretched}
use Rattle.dt_map.specs.Bounds.{alignment}
use Rattle.dt_map.specs.Runs.{placed_at, even}
use Rattle.dt_map.specs.Span.{entry_span, span_of}
use Rattle.dt_map.specs.Summary.{ends_or_zero}
use Rattle.dt_tree.specs.Rule.{is_step}
use Rattle.dt_map.proofs.Extremes.{alignment-append, alignment-pos}
use Rattle.dt_offsets.proofs.Spans.{reach_of_even, both, joined_marks_assoc, joined_marks_none, spans-append, stretched_more}
use Rattle.dt_map.proofs.Summaries.{span_of-shift, alignment-shift}

-- a number of 128 bits, read back
pub same128 : (z : ℤ) → mag z < 170141183460469231731687303715884105728 → to_z w128 (of_z w128 z) ≡ z
same128 z fits = to_z-of_z w128 z (record { sfits = fits })

-- the span of places, one after another
pub around_more : (xs : List ℤ) (i : ℕ) (x : ℤ) (so_far here : Option Marks) → i < length xs → x ≡ get_or xs i (pos 0) → here ≡ point x →
    joined_marks so_far (reach_of (drop i xs)) ≡ reach_of xs → joined_marks (joined_marks so_far here) (reach_of (drop (i + 1) xs)) ≡ reach_of xs
around_more xs i x so_far here lt is point_is h =
    joined_marks_assoc so_far here (reach_of (drop (i + 1) xs))
    ∙ (ap (λ p. joined_marks so_far (joined_marks p (reach_of (drop (i + 1) xs)))) (point_is ∙ ap point is) ∙ (ap (joined_marks so_far) (sym (at_drop_more reach_of xs i (pos 0) lt)) ∙ h))

pub around_all : (xs : List ℤ) (i : ℕ) (so_far : Option Marks) → length xs ≤ i → joined_marks so_far (reach_of (drop i xs)) ≡ reach_of xs → so_far ≡ reach_of xs
around_all xs i so_far end h = sym (joined_marks_none so_far) ∙ (ap (joined_marks so_far) (sym (at_drop_all reach_of xs i end)) ∙ h)

-- places with an even step from 0 on
same_steps : (step : ℤ) (ks : List ℕ) → map (λ i. pos i *ℤ step) ks ≡ map (λ i. pos 0 +ℤ (pos i *ℤ step)) ks
same_steps step [] = refl
same_steps step (k ∷ ks) = ap (λ z. z ∷ map (λ i. pos i *ℤ step) ks) (still (pos k *ℤ step)) ∙ ap (λ zs. (pos 0 +ℤ (pos k *ℤ step)) ∷ zs) (same_steps step ks)
  where
    still : (z : ℤ) → z ≡ pos 0 +ℤ z
    still z = omega (arith, ints)

pub even_reach : (count : ℕ) (step last low high : ℤ) → 0 < count → last ≡ pos (count - 1) *ℤ step → low ≡ int_min last (pos 0) → high ≡ int_max last (pos 0) →
    Some (let m : Marks = record { lb = low; ub = high } in m) ≡ reach_of (even count step)
even_reach zero step last low high some is lows highs = absurd (omega arith)
even_reach (suc n) step last low high some is lows highs =
    let one : suc n - 1 ≡ n = omega arith in
    let at : last ≡ pos n *ℤ step = is ∙ ap (λ k. pos k *ℤ step) one in
    both _ _ _ _ (lower low last (pos n *ℤ step) at lows) (upper high last (pos n *ℤ step) at highs)
    ∙ sym (ap reach_of (same_steps step (below (suc n))) ∙ reach_of_even (pos 0) step n)
  where
    lower : (low last z : ℤ) → last ≡ z → low ≡ int_min last (pos 0) → low ≡ int_min (pos 0) (pos 0 +ℤ z)
    lower low last z at lows = omega (arith, ints, clamps)

    upper : (high last z : ℤ) → last ≡ z → high ≡ int_max last (pos 0) → high ≡ int_max (pos 0) (pos 0 +ℤ z)
    upper high last z at highs = omega (arith, ints, clamps)

-- copies at places
pub span_of-placed_at : (places : List ℤ) (es : List Entry) → span_of (placed_at places es) ≡ stretched (reach_of places) (span_of es)
span_of-placed_at [] es = refl
span_of-placed_at (x ∷ xs) es =
    spans-append entry_span (shift x es) (placed_at xs es)
    ∙ (ap (λ s. joined_marks s (span_of (placed_at xs es))) (span_of-shift x es)
    ∙ (ap (joined_marks (shift_marks x (span_of es))) (span_of-placed_at xs es) ∙ stretched_more x (reach_of xs) (span_of es)))

pub alignment-placed_at : (places : List ℤ) (es : List Entry) → 0 < length places → alignment (placed_at places es) ≡ alignment es
alignment-placed_at [] es some = absurd (omega arith)
alignment-placed_at (x ∷ []) es some =
    let a = alignment-append (shift x es) [] in
    let b = alignment-shift x es in
    let c = alignment-pos es in
    omega arith
alignment-placed_at (x ∷ (y ∷ ys)) es some =
    let a = alignment-append (shift x es) (placed_at (y ∷ ys) es) in
    let b = alignment-shift x es in
    let c = alignment-placed_at (y ∷ ys) es (omega arith) in
    omega arith

-- the reach of places that are near
near_joined : (bound : ℕ) (x : ℤ) (rest : Option Marks) (r : Marks) → nat_abs x ≤ bound → ((s : Marks) → rest ≡ Some s → (nat_abs s.lb ≤ bound) × (nat_abs s.ub ≤ bound)) →
    Some r ≡ joined_marks (point x) rest → (nat_abs r.lb ≤ bound) × (nat_abs r.ub ≤ bound)
near_joined bound x None r near each is =
    let low : r.lb ≡ x = ap (λ o. (ends_or_zero o).lb) is in
    let high : r.ub ≡ x = ap (λ o. (ends_or_zero o).ub) is in
    (omega (arith, ints), omega (arith, ints))
near_joined bound x (Some s) r near each is =
    let low : r.lb ≡ int_min x s.lb = ap (λ o. (ends_or_zero o).lb) is in
    let high : r.ub ≡ int_max x s.ub = ap (λ o. (ends_or_zero o).ub) is in
    let h = each s refl in
    (omega (arith, ints, clamps), omega (arith, ints, clamps))

both_true : (a b : Bool) → (a && b) ≡ true → (a ≡ true) × (b ≡ true)
both_true true true e = (refl, refl)
both_true true false e = cc
both_true false b e = cc

pub step_near : (x : ℤ) → is_step x ≡ true → nat_abs x ≤ 2305843009213693952
step_near x e = elim (leb_tells (nat_abs x) 2305843009213693952) [ inl h ↦ h.1 | inr h ↦ absurd (cc (e, h.0)) ]

pub near_reach : (places : List ℤ) (r : Marks) → list_all is_step places ≡ true → Some r ≡ reach_of places → (nat_abs r.lb ≤ 2305843009213693952) × (nat_abs r.ub ≤ 2305843009213693952)
near_reach [] r all is = absurd (cc is)
near_reach (x ∷ xs) r all is =
    let parts = both_true (is_step x) (list_all is_step xs) all in
    near_joined 2305843009213693952 x (reach_of xs) r (step_near x parts.0) (λ s same. near_reach xs s parts.1 (sym same)) is

pub some_reach : (places : List ℤ) → 0 < length places → reach_of places ≡ None → ⊥
some_reach [] some e = absurd (omega arith)
some_reach (x ∷ xs) some e = joined_some (point x) (reach_of xs) e
  where
    joined_some : (a b : Option Marks) → joined_marks (point x) b ≡ None → ⊥
    joined_some a None e = cc
    joined_some a (Some b) e = cc
