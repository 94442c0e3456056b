-- Elements lie inside a buffer exactly where their span does, which arithmetic tells.
use Rattle.std.proofs.Common.{◌≡◌, ℕ, zero, suc, add-one, ◌+◌, ◌<◌, Bool, true, false, ◌&&◌, ℤ, pos, ◌+ℤ◌, ◌*ℤ◌, Option, Some, None, List, [], ◌∷◌, map, length, refl, sym, ap, ◌∙◌, arith}
use Rattle.std.specs.Prelude.{int_le}
use Rattle.std.specs.Int.{int_min, int_max}
use Rattle.std.specs.List.{flat_map}
use Rattle.std.proofs.lemmas.Int.{ints, clamps}
use Rattle.std.proofs.lemmas.List.Folds.{flat_map-map}
use Rattle.dt_map.specs.declared.entry.Entry.{Entry}
use Rattle.dt_offsets.specs.declared.marks.Marks.{Marks}
use Rattle.dt_map.specs.Bounds.{true_lb, true_ub, extent_of}
use Rattle.dt_map.specs.Elements.{elements, are_inside, lies_inside}
use Rattle.dt_offsets.specs.Offsets.{below}
use Rattle.dt_offsets.specs.Span.{joined_marks, reach_of, stretched}
use Rattle.dt_map.specs.Span.{span_of}
use Rattle.dt_map.specs.Summary.{ends_or_zero}
use Rattle.dt_map.specs.Typemap.{Marked, shift}
use Rattle.dt_map.proofs.Placings.{placed}
use Rattle.dt_offsets.proofs.Spans.{reach_of_even, both}
use Rattle.dt_map.proofs.Summaries.{summary_of_copies, true_lb_is, true_ub_is}

-- whether a range lies in a buffer of so many bytes, and a span, where there is one
abbrev pub range_lies : ℕ → ℤ → ℤ → Bool
range_lies len low high = int_le (pos 0) low && int_le high (pos len)

abbrev span_lies : ℕ → Option Marks → Bool
span_lies len None = true
span_lies len (Some span) = range_lies len span.lb span.ub

least_above : (a b c : ℤ) → int_le c (int_min a b) ≡ (int_le c a && int_le c b)
least_above a b c = grind (arith, ints, clamps)

greatest_below : (a b c : ℤ) → int_le (int_max a b) c ≡ (int_le a c && int_le b c)
greatest_below a b c = grind (arith, ints, clamps)

two_by_two : (a b c d : Bool) → ((a && b) && (c && d)) ≡ ((a && c) && (b && d))
two_by_two true true c d = refl
two_by_two true false true d = refl
two_by_two true false false d = refl
two_by_two false b c d = refl

alone : (a : Bool) → a ≡ (a && true)
alone true = refl
alone false = refl

joined_lies : (len : ℕ) (a : Marks) (s : Option Marks) → span_lies len (joined_marks (Some a) s) ≡ (range_lies len a.lb a.ub && span_lies len s)
joined_lies len a None = alone (range_lies len a.lb a.ub)
joined_lies len a (Some b) =
    ap (λ t. t && int_le (int_max a.ub b.ub) (pos len)) (least_above a.lb b.lb (pos 0))
    ∙ ap (λ t. (int_le (pos 0) a.lb && int_le (pos 0) b.lb) && t) (greatest_below a.ub b.ub (pos len))
    ∙ two_by_two (int_le (pos 0) a.lb) (int_le (pos 0) b.lb) (int_le a.ub (pos len)) (int_le b.ub (pos len))

inside_by_span : (len : ℕ) (es : List Entry) → are_inside len es ≡ span_lies len (span_of es)
inside_by_span len [] = refl
inside_by_span len (e ∷ es) = ap (λ t. lies_inside len e && t) (inside_by_span len es) ∙ sym (joined_lies len _ (span_of es))

-- the span of copies
span_of_copies : (m : Marked) (at : ℕ → ℤ) (is : List ℕ) → span_of (flat_map (λ i. shift (at i) m.entries) is) ≡ stretched (reach_of (map at is)) (span_of m.entries)
span_of_copies m at is =
    ap span_of (sym (flat_map-map (λ x. shift x m.entries) at is) ∙ sym (flat_map-map placed (λ x. (x, m)) (map at is)))
    ∙ ap (λ s. s.span) (summary_of_copies (map at is) m)

-- the span of entries goes from the least displacement to the greatest end
never_none : (a : Marks) (s : Option Marks) → joined_marks (Some a) s ≡ None → ⊥
never_none a None e = cc
never_none a (Some b) e = cc

span_known : (s : Option Marks) (es : List Entry) (low high : ℤ) → 0 < length es → span_of es ≡ s → low ≡ (ends_or_zero s).lb → high ≡ (ends_or_zero s).ub → span_of es ≡ Some (record { lb = low; ub = high })
span_known None [] low high some is e f = absurd (omega arith)
span_known None (x ∷ es) low high some is e f = absurd (never_none _ (span_of es) is)
span_known (Some s) es low high some is e f = is ∙ both _ _ _ _ (sym e) (sym f)

pub span_of_some : (es : List Entry) → 0 < length es → span_of es ≡ Some (record { lb = true_lb es; ub = true_ub es })
span_of_some es some = span_known (span_of es) es (true_lb es) (true_ub es) some refl (true_lb_is es) (true_ub_is es)

-- the elements of one copy or more
inside_from : (len k : ℕ) (m : Marked) (origin : ℤ) → 0 < length m.entries → let last = origin +ℤ (pos k *ℤ extent_of m) in
    are_inside len (elements m (suc k) origin) ≡ range_lies len (true_lb m.entries +ℤ int_min origin last) (true_ub m.entries +ℤ int_max origin last)
inside_from len k m origin some =
    let at : ℕ → ℤ = λ i. origin +ℤ (pos i *ℤ extent_of m) in
    inside_by_span len (elements m (suc k) origin)
    ∙ ap (span_lies len) (span_of_copies m at (below (suc k))
    ∙ (ap (λ r. stretched r (span_of m.entries)) (reach_of_even origin (extent_of m) k)
    ∙ ap (λ s. stretched (Some (record { lb = int_min origin (at k); ub = int_max origin (at k) })) s) (span_of_some m.entries some)))

pub inside_by_ends : (len k : ℕ) (m : Marked) (origin last low high : ℤ) → 0 < length m.entries → last ≡ origin +ℤ (pos k *ℤ extent_of m)
    → low ≡ true_lb m.entries +ℤ int_min origin last → high ≡ true_ub m.entries +ℤ int_max origin last
    → range_lies len low high ≡ are_inside len (elements m (k + 1) origin)
inside_by_ends len k m origin last low high some at at_low at_high =
    ap (λ z. range_lies len z high) at_low
    ∙ ap (λ z. range_lies len (true_lb m.entries +ℤ int_min origin last) z) at_high
    ∙ ap (λ z. range_lies len (true_lb m.entries +ℤ int_min origin z) (true_ub m.entries +ℤ int_max origin z)) at
    ∙ sym (inside_from len k m origin some)
    ∙ ap (λ n. are_inside len (elements m n origin)) (sym (add-one k))

-- without copies or without entries there are no elements
no_copy : (at : ℕ → ℤ) (es : List Entry) (is : List ℕ) → (0 < length es → ⊥) → flat_map (λ i. shift (at i) es) is ≡ []
no_copy at (e ∷ es) is none = absurd (none (omega arith))
no_copy at [] [] none = refl
no_copy at [] (i ∷ is) none = no_copy at [] is none

pub no_elements : (m : Marked) (count : ℕ) (origin : ℤ) → ((0 < count) × (0 < length m.entries) → ⊥) → elements m count origin ≡ []
no_elements m zero origin none = refl
no_elements m (suc n) origin none = no_copy (λ i. origin +ℤ (pos i *ℤ extent_of m)) m.entries (below (suc n)) (λ some. none (omega arith, some))
