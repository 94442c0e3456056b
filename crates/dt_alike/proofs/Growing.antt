-- the natural extent of a front that grows by an entry
use Rattle.std.proofs.Common.{◌≡◌, ℕ, suc, ◌+◌, ◌≤◌, ◌<◌, ℤ, pos, nat_abs, ◌+ℤ◌, ◌-ℤ◌, ◌≤ℤ◌, max, Option, Some, None, List, [], ◌∷◌, ◌++◌, length, take, get_or, unwrap_or, SFits, to_z, of_z, refl, sym, ap, ◌∙◌, arith, below_more, length-append}
use Rattle.std.proofs.lemmas.Int.{ints, to_z-of_z}
use Rattle.std.specs.Int.{w64, w128}
use Rattle.dt_kinds.specs.Displacement.{FitsDisp}
use Rattle.std.proofs.lemmas.List.{take_more, get_or_push, get_or_append_left}
use Rattle.std.proofs.lemmas.List.Elements.{All-take}
use Rattle.std.specs.List.{All}
use Rattle.dt_offsets.specs.declared.marks.Marks.{Marks}
use Rattle.dt_offsets.specs.Span.{joined_marks}
use Rattle.dt_offsets.proofs.Spans.{spans-append}
use Rattle.dt_kinds.specs.Kind.{native_size}
use Rattle.dt_map.specs.declared.entry.Entry.{Entry}
use Rattle.dt_map.specs.Bounds.{alignment, natural_end, true_lb, true_ub}
use Rattle.dt_map.specs.Limits.{EntryFits}
use Rattle.dt_map.specs.Numbers.{padding}
use Rattle.dt_map.specs.Runs.{natural_extent}
use Rattle.dt_map.specs.Span.{entry_span, span_of}
use Rattle.dt_map.specs.Summary.{ends_or_zero}
use Rattle.dt_map.proofs.Extremes.{alignment_more, true_lb-fits, true_ub-fits, true_bounds_ordered}
use Rattle.dt_map.proofs.Summaries.{true_lb_is, true_ub_is}
use Rattle.dt_alike.specs.Extents.{AreExtents, IsWithin}
use Rattle.dt_alike.specs.Step.{entry_at}

-- a displacement that was narrowed and widened
narrowed : (x : ℤ) → FitsDisp x → to_z w64 (of_z w64 (to_z w128 (of_z w128 x))) ≡ x
narrowed x fits = omega (arith, ints, fits.0, fits.1)

far_of : (low high : ℤ) (p : ℕ) → low ≤ℤ high → pos (nat_abs ((high +ℤ pos p) -ℤ low)) ≡ (high +ℤ pos p) -ℤ low
far_of low high p ordered = omega (arith, ints)

-- the natural extent, as code that narrows its ends tells it
pub natural_is : (span : Marks) (align n : ℕ) (end : ℤ) → IsWithin span → SFits w64 end
    → end ≡ natural_end (to_z w64 (of_z w64 (to_z w128 (of_z w128 span.lb)))) (to_z w64 (of_z w64 (to_z w128 (of_z w128 span.ub)))) align
    → n ≡ nat_abs (to_z w64 (of_z w64 end) -ℤ to_z w64 (of_z w64 (to_z w128 (of_z w128 span.lb))))
    → pos n ≡ natural_end span.lb span.ub align -ℤ span.lb
natural_is span align n end within fits ended told =
    let low = narrowed span.lb within.low in
    let high = narrowed span.ub within.high in
    let same = to_z-of_z w64 end fits in
    let is : end ≡ natural_end span.lb span.ub align = ended ∙ ap (λ z. natural_end z (to_z w64 (of_z w64 (to_z w128 (of_z w128 span.ub)))) align) low ∙ ap (λ z. natural_end span.lb z align) high in
    let apart : n ≡ nat_abs (natural_end span.lb span.ub align -ℤ span.lb) = told ∙ ap (λ z. nat_abs (z -ℤ to_z w64 (of_z w64 (to_z w128 (of_z w128 span.lb))))) (same ∙ is) ∙ ap (λ z. nat_abs (natural_end span.lb span.ub align -ℤ z)) low in
    ap pos apart ∙ far_of span.lb span.ub (padding (nat_abs (span.ub -ℤ span.lb)) align) within.ordered

-- a front with one entry more has a span
pub front_is : (span : Option Marks) (next front : Marks) (joined entry : Option Marks) → joined ≡ joined_marks span (Some next) → front ≡ unwrap_or joined next
    → Some next ≡ entry → Some front ≡ joined_marks span entry
front_is None next front joined entry is was e = ap Some (was ∙ ap (λ (o : Option Marks). unwrap_or o next) is) ∙ e
front_is (Some s) next front joined entry is was e = ap Some (was ∙ ap (λ (o : Option Marks). unwrap_or o next) is) ∙ ap (joined_marks (Some s)) e

-- the span, the alignment and the extents of a front
pub record Grown (m : List Entry) (i : ℕ) (span : Option Marks) (align : ℕ) (extents : List ℕ) : Type 0 where
  pub spans : span ≡ span_of (take i m)
  pub aligns : align ≡ alignment (take i m)
  pub each : length extents ≡ i
  pub extent : (k : ℕ) → k < i → pos (get_or extents k 0) ≡ natural_extent (take (suc k) m)

pub none_grown : (m : List Entry) → Grown m 0 None 1 []
none_grown m = record { spans = refl; aligns = refl; each = refl; extent = λ k lt. absurd (omega arith) }

span_more : (m : List Entry) (i : ℕ) → i < length m → span_of (take (i + 1) m) ≡ joined_marks (span_of (take i m)) (entry_span (entry_at m i))
span_more m i lt = ap span_of (take_more m i (entry_at [] 0) lt) ∙ spans-append entry_span (take i m) (entry_at m i ∷ [])

-- the natural extent of entries that have this span
extent_with : (es : List Entry) (s : Marks) → span_of es ≡ Some s → natural_extent es ≡ natural_end s.lb s.ub (alignment es) -ℤ s.lb
extent_with es s is =
    let low = true_lb_is es ∙ ap (λ o. (ends_or_zero o).lb) is in
    let high = true_ub_is es ∙ ap (λ o. (ends_or_zero o).ub) is in
    rw (low, high) refl

pub within : (m : List Entry) (i : ℕ) (s : Marks) → All EntryFits m → span_of (take i m) ≡ Some s → IsWithin s
within m i s fits is =
    let es : List Entry = take i m in
    let low : true_lb es ≡ s.lb = true_lb_is es ∙ ap (λ o. (ends_or_zero o).lb) is in
    let high : true_ub es ≡ s.ub = true_ub_is es ∙ ap (λ o. (ends_or_zero o).ub) is in
    let all : All EntryFits es = All-take EntryFits i m fits in
    record {
      low = rw (← low) (true_lb-fits es all);
      high = rw (← high) (true_ub-fits es all);
      ordered = rw (← low, ← high) (true_bounds_ordered es);
    }

pub grown_span : (m : List Entry) (i : ℕ) (s : Marks) (span : Option Marks) (align : ℕ) (extents : List ℕ) → i < length m → Grown m i span align extents
    → Some s ≡ joined_marks span (entry_span (entry_at m i)) → span_of (take (i + 1) m) ≡ Some s
grown_span m i s span align extents lt grown joined =
    span_more m i lt ∙ sym (joined ∙ ap (λ (x : Option Marks). joined_marks x (entry_span (entry_at m i))) grown.spans)

pub one_grown : (m : List Entry) (i : ℕ) (s : Marks) (span : Option Marks) (align more extent : ℕ) (extents : List ℕ) → i < length m → Grown m i span align extents
    → Some s ≡ joined_marks span (entry_span (entry_at m i)) → more ≡ max align (native_size (entry_at m i).kind)
    → pos extent ≡ natural_end s.lb s.ub more -ℤ s.lb → Grown m (i + 1) (Some s) more (extents ++ extent ∷ [])
one_grown m i s span align more extent extents lt grown joined aligned is =
    let whole = grown_span m i s span align extents lt grown joined in
    let aligns : more ≡ alignment (take (i + 1) m) = omega (arith, alignment_more m i (entry_at [] 0) lt, grown.aligns) in
    let next : i + 1 ≡ suc i = omega arith in
    let here : pos extent ≡ natural_extent (take (i + 1) m) = is ∙ ap (λ a. natural_end s.lb s.ub a -ℤ s.lb) aligns ∙ sym (extent_with (take (i + 1) m) s whole) in
    record {
      spans = sym whole;
      aligns = aligns;
      each = length-append extents (extent ∷ []) ∙ ap (λ n. n + 1) grown.each;
      extent = below_more (λ k. pos (get_or (extents ++ extent ∷ []) k 0) ≡ natural_extent (take (suc k) m)) i
          (λ k below. ap pos (get_or_append_left extents (extent ∷ []) 0 k (omega (arith, grown.each))) ∙ grown.extent k below)
          (ap pos (get_or_push extents extent 0 i grown.each) ∙ here ∙ ap (λ n. natural_extent (take n m)) next);
    }

pub all_grown : (m : List Entry) (i : ℕ) (span : Option Marks) (align : ℕ) (extents : List ℕ) → length m ≤ i → i ≤ length m → Grown m i span align extents → AreExtents m extents
all_grown m i span align extents end inside grown =
    record { each = omega (arith, grown.each); extent = λ k lt. grown.extent k (omega arith) }
