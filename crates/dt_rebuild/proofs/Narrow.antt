-- the bounds of entries that stand among others, and begin at 0
use Rattle.std.proofs.Common.{◌≡◌, ℕ, ◌≤◌, ◌<◌, ◌+ℤ◌, ◌-ℤ◌, ◌-◌, ◌%◌, ◌≤ℤ◌, ℤ, pos, nat_abs, Option, None, Some, List, [], ◌∷◌, ◌++◌, length, refl, ap, ◌∙◌, arith}
use Rattle.std.proofs.Math.Nat.{mod-lt}
use Rattle.std.proofs.lemmas.Int.{ints, clamps}
use Rattle.dt_kinds.specs.Kind.{native_size}
use Rattle.dt_map.specs.declared.entry.Entry.{Entry}
use Rattle.dt_map.specs.Alike.{first_disp}
use Rattle.dt_map.specs.Bounds.{alignment, true_lb, true_ub, natural_ub}
use Rattle.dt_map.specs.Numbers.{padding}
use Rattle.dt_map.specs.Span.{span_of, entry_span}
use Rattle.dt_map.specs.Summary.{ends_or_zero}
use Rattle.dt_map.specs.Typemap.{shift}
use Rattle.dt_map.proofs.Extremes.{alignment-pos, alignment-le}
use Rattle.dt_map.proofs.Seats.{Sits}
use Rattle.dt_map.proofs.Summaries.{span_of-shift, true_lb_is, true_ub_is}
use Rattle.dt_offsets.specs.declared.marks.Marks.{Marks}
use Rattle.dt_offsets.specs.Span.{joined_marks, shift_marks}
use Rattle.dt_offsets.proofs.Spans.{spans-append}

-- a span among others
among : (a b : Option Marks) (s : Marks) → let whole = ends_or_zero (joined_marks a (joined_marks (Some s) b)) in (whole.lb ≤ℤ s.lb) × (s.ub ≤ℤ whole.ub)
among None None s = (omega (arith, ints), omega (arith, ints))
among None (Some b) s = (omega (arith, ints, clamps), omega (arith, ints, clamps))
among (Some a) None s = (omega (arith, ints, clamps), omega (arith, ints, clamps))
among (Some a) (Some b) s = (omega (arith, ints, clamps), omega (arith, ints, clamps))

some_span : (a : Marks) (s : Option Marks) → joined_marks (Some a) s ≡ Some (ends_or_zero (joined_marks (Some a) s))
some_span a None = refl
some_span a (Some s) = refl

span_is : (es : List Entry) → 0 < length es → span_of es ≡ Some (ends_or_zero (span_of es))
span_is [] some = absurd (omega arith)
span_is (e ∷ es) some = some_span (record { lb = e.disp; ub = e.disp +ℤ pos (native_size e.kind) }) (span_of es)

-- where entries sit, the bounds of the list are round theirs
pub sits_within : {m : List Entry} {y : ℤ} {es : List Entry} {i : ℕ} → Sits m y es i → 0 < length es → (true_lb m ≤ℤ (true_lb es +ℤ y)) × ((true_ub es +ℤ y) ≤ℤ true_ub m)
sits_within {m = m} {y = y} {es = es} h some =
    let s = ends_or_zero (span_of es) in
    let moved : span_of (shift y es) ≡ Some (record { lb = s.lb +ℤ y; ub = s.ub +ℤ y }) = span_of-shift y es ∙ ap (shift_marks y) (span_is es some) in
    let whole : span_of m ≡ joined_marks (span_of h.before) (joined_marks (Some (record { lb = s.lb +ℤ y; ub = s.ub +ℤ y })) (span_of h.after)) =
    ap span_of h.whole
    ∙ (spans-append entry_span h.before (shift y es ++ h.after)
    ∙ ap (joined_marks (span_of h.before)) (spans-append entry_span (shift y es) h.after ∙ ap (λ o. joined_marks o (span_of h.after)) moved)) in
    let inside = among (span_of h.before) (span_of h.after) (record { lb = s.lb +ℤ y; ub = s.ub +ℤ y }) in
    let low = true_lb_is m ∙ ap (λ o. (ends_or_zero o).lb) whole in
    let high = true_ub_is m ∙ ap (λ o. (ends_or_zero o).ub) whole in
    (around_low _ _ _ _ y low (true_lb_is es) inside.0, around_high _ _ _ _ y high (true_ub_is es) inside.1)
  where
    around_low : (m here l s y : ℤ) → m ≡ l → here ≡ s → l ≤ℤ (s +ℤ y) → m ≤ℤ (here +ℤ y)
    around_low m here l s y p q h = omega (arith, ints, p, q, h)

    around_high : (m here l s y : ℤ) → m ≡ l → here ≡ s → (s +ℤ y) ≤ℤ l → (here +ℤ y) ≤ℤ m
    around_high m here l s y p q h = omega (arith, ints, p, q, h)

-- entries that begin at 0 have it within their bounds
pub zero_within : (es : List Entry) → 0 < length es → first_disp es ≡ pos 0 → (true_lb es ≤ℤ pos 0) × (pos 0 ≤ℤ true_ub es)
zero_within [] some first = absurd (omega arith)
zero_within (e ∷ es) some first =
    let inside = among None (span_of es) (record { lb = e.disp; ub = e.disp +ℤ pos (native_size e.kind) }) in
    let low = true_lb_is (e ∷ es) in
    let high = true_ub_is (e ∷ es) in
    (omega (arith, ints, inside.0, low, first), omega (arith, ints, inside.1, high, first))

-- rounding adds at most 7
pub rounded : (es : List Entry) → (true_ub es ≤ℤ natural_ub es) × (natural_ub es ≤ℤ (true_ub es +ℤ pos 7))
rounded es =
    let some = alignment-pos es in
    let few = alignment-le es in
    let n = nat_abs (true_ub es -ℤ true_lb es) in
    let p : padding n (alignment es) < alignment es = mod-lt (alignment es - n % alignment es) some in
    by (true_ub es) (padding n (alignment es)) (omega (arith, p, few))
  where
    by : (z : ℤ) (p : ℕ) → p ≤ 7 → (z ≤ℤ (z +ℤ pos p)) × ((z +ℤ pos p) ≤ℤ (z +ℤ pos 7))
    by z p few = (omega (arith, ints), omega (arith, ints, few))
