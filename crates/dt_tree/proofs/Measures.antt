-- the measures of entries, and of copies of them
use Rattle.std.proofs.Common.{◌≡◌, ℕ, ◌+◌, ◌-◌, ◌*◌, ◌≤◌, ◌<◌, ℤ, pos, nat_abs, ◌+ℤ◌, ◌-ℤ◌, ◌*ℤ◌, ◌≤ℤ◌, Option, Some, None, List, [], ◌∷◌, length, sym, ap, ◌∙◌, subst, arith, append-nil}
use Rattle.std.proofs.lemmas.Int.{ints, clamps}
use Rattle.std.proofs.Math.IntN.{pos-*ℤ-pos}
use Rattle.std.proofs.Math.Nat.{mul-le-mul}
use Rattle.dt_map.specs.declared.entry.Entry.{Entry}
use Rattle.dt_offsets.specs.declared.marks.Marks.{Marks}
use Rattle.dt_map.specs.Numbers.{padding}
use Rattle.dt_map.specs.Bounds.{alignment, true_lb, true_ub, natural_end}
use Rattle.dt_map.specs.Runs.{placed_at, even, run, natural_extent}
use Rattle.dt_offsets.specs.Span.{reach_of, stretched}
use Rattle.dt_map.specs.Span.{span_of}
use Rattle.dt_map.specs.Summary.{ends_or_zero}
use Rattle.dt_map.proofs.Extremes.{alignment-pos, alignment-le, true_bounds_ordered}
use Rattle.dt_map.proofs.Seats.{length-even}
use Rattle.dt_map.proofs.Summaries.{true_lb_is, true_ub_is}
use Rattle.std.specs.Option.{MatchOption}
use Rattle.dt_map.specs.Typemap.{shift}
use Rattle.dt_tree.specs.declared.measure.Measure.{Measure}
use Rattle.dt_tree.specs.Measure.{IsClose, IsMeasure, IsShortMeasure}
use Rattle.dt_tree.specs.Rule.{IsShort}
use Rattle.dt_tree.proofs.Spans.{span_of-placed_at, alignment-placed_at, even_reach}

pub measure_lb : (es : List Entry) (span : Marks) (align : ℕ) → IsMeasure es span align → true_lb es ≡ span.lb
measure_lb es span align m = true_lb_is es ∙ ap (λ o. (ends_or_zero o).lb) m.0

pub measure_ub : (es : List Entry) (span : Marks) (align : ℕ) → IsMeasure es span align → true_ub es ≡ span.ub
measure_ub es span align m = true_ub_is es ∙ ap (λ o. (ends_or_zero o).ub) m.0

pub measure_ordered : (es : List Entry) (span : Marks) (align : ℕ) → IsMeasure es span align → span.lb ≤ℤ span.ub
measure_ordered es span align m =
    let low = measure_lb es span align m in
    let high = measure_ub es span align m in
    let ordered = true_bounds_ordered es in
    omega (arith, ints)

pub measure_aligned : (es : List Entry) (span : Marks) (align : ℕ) → IsMeasure es span align → (0 < align) × (align ≤ 8)
measure_aligned es span align m =
    let same = m.1 in
    let some = alignment-pos es in
    let few = alignment-le es in
    (omega arith, omega arith)

pub measure_extent : (es : List Entry) (span : Marks) (align far : ℕ) → IsMeasure es span align → span.lb ≤ℤ span.ub → far ≡ nat_abs (span.ub -ℤ span.lb) →
    pos (far + padding far align) ≡ natural_extent es
measure_extent es span align far m ordered is =
    let low = measure_lb es span align m in
    let high = measure_ub es span align m in
    by span.lb span.ub far (padding far align) ordered is
    ∙ sym
    (ap (λ z. natural_end z (true_ub es) (alignment es) -ℤ z) low
    ∙ (ap (λ z. natural_end span.lb z (alignment es) -ℤ span.lb) high
    ∙ (ap (λ n. natural_end span.lb span.ub n -ℤ span.lb) m.1 ∙ ap (λ n. (span.ub +ℤ pos (padding n align)) -ℤ span.lb) (sym is))))
  where
    by : (l u : ℤ) (far p : ℕ) → l ≤ℤ u → far ≡ nat_abs (u -ℤ l) → pos (far + p) ≡ (u +ℤ pos p) -ℤ l
    by l u far p ordered is = omega (arith, ints)

-- copies at places of a reach
pub measure_placed : (places : List ℤ) (es : List Entry) (reach span result : Marks) (align : ℕ) → 0 < length places → Some reach ≡ reach_of places →
    Some result ≡ stretched (Some reach) (Some span) → IsMeasure es span align → IsMeasure (placed_at places es) result align
measure_placed places es reach span result align some at is m = (
  span_of-placed_at places es ∙ (ap (λ r. stretched r (span_of es)) (sym at) ∙ (ap (stretched (Some reach)) m.0 ∙ sym is)),
  alignment-placed_at places es some ∙ m.1,
)

-- a block of copies
pub measure_run : (es : List Entry) (block last extent : ℕ) (span result : Marks) (align : ℕ) → 0 < block → pos extent ≡ natural_extent es → last ≡ (block - 1) * extent →
    Some result ≡ stretched (Some (record { lb = pos 0; ub = pos last })) (Some span) → IsMeasure es span align → IsMeasure (run block es) result align
measure_run es block last extent span result align some step is placed m =
    measure_placed (even block (natural_extent es)) es _ span result align (omega (arith, some, length-even block (natural_extent es)))
    (even_reach block (natural_extent es) (pos last) (pos 0) (pos last) some (product ∙ ap (λ z. pos (block - 1) *ℤ z) step) (omega (arith, ints, clamps)) (omega (arith, ints, clamps)))
    placed m
  where
    product : pos last ≡ pos (block - 1) *ℤ pos extent
    product = ap pos is ∙ sym (pos-*ℤ-pos (block - 1) extent)

pub product_small : (n e : ℕ) → n ≤ 1023 → e ≤ 4835703278458516698824704 → n * e ≤ 1023 * 4835703278458516698824704
product_small n e few small = mul-le-mul few small

-- short entries, by their measure
pub short_from : (es : List Entry) (span : Marks) (align : ℕ) → IsMeasure es span align → IsClose span → IsShort es
short_from es span align m close =
    let low = measure_lb es span align m in
    let high = measure_ub es span align m in
    record { from = omega (arith, ints, close.0); to = omega (arith, ints, close.1) }

pub close_from : (es : List Entry) (span : Marks) (align : ℕ) → IsMeasure es span align → IsShort es → IsClose span
close_from es span align m short =
    let low = measure_lb es span align m in
    let high = measure_ub es span align m in
    (omega (arith, ints, short.from), omega (arith, ints, short.to))

pub short_measure : (es : List Entry) (m : Measure) (result : Option Measure) → MatchOption result (IsClose m.span → ⊥) (λ r. (r ≡ m) × IsClose m.span) → IsMeasure es m.span m.align →
    IsShortMeasure es result
short_measure es m None far is = λ short. far (close_from es m.span m.align is short)
short_measure es m (Some r) h is =
    subst (λ (r : Measure). IsShort es × IsMeasure es r.span r.align × IsClose r.span) (sym h.0) (short_from es m.span m.align is h.1, is, h.1)

-- copies of a block at places
pub measure_blocks : (places : List ℤ) (block : ℕ) (es : List Entry) (reach span result : Marks) (align align' : ℕ) → 0 < length places → Some reach ≡ reach_of places →
    Some result ≡ stretched (Some reach) (Some span) → align' ≡ align → IsMeasure (run block es) span align → IsMeasure (placed_at places (run block es)) result align'
measure_blocks places block es reach span result align align' some at is same m =
    subst (IsMeasure (placed_at places (run block es)) result) (sym same) (measure_placed places (run block es) reach span result align some at is m)

-- and at one displacement
pub measure_shifted : (x : ℤ) (es : List Entry) (reach span result : Marks) (align align' : ℕ) → Some reach ≡ reach_of (x ∷ []) →
    Some result ≡ stretched (Some reach) (Some span) → align' ≡ align → IsMeasure es span align → IsMeasure (shift x es) result align'
measure_shifted x es reach span result align align' at is same m =
    let one = measure_placed (x ∷ []) es reach span result align (omega arith) at is m in
    subst (IsMeasure (shift x es) result) (sym same) (subst (λ l. IsMeasure l result align) (append-nil (shift x es)) one)
