-- how summaries shift, join and copy
use Rattle.std.proofs.Common.{◌≡◌, ℕ, zero, suc, ◌<◌, max, ℤ, pos, ◌+ℤ◌, Option, Some, None, List, [], ◌∷◌, ◌++◌, map, length, refl, sym, ap, ◌∙◌, arith, length-append, append-nil, unwrap_or, option_map}
use Rattle.std.specs.Prelude.{cond, ◌==◌}
use Rattle.std.proofs.Math.Dec.{eqb-suc-zero}
use Rattle.std.proofs.lemmas.Int.{ints}
use Rattle.std.proofs.lemmas.List.Sums.{sum_by-append, sum_by-cons}
use Rattle.std.proofs.lemmas.Grind.{flat_map-append}
use Rattle.std.specs.List.{flat_map}
use Rattle.dt_kinds.specs.Kind.{native_size, external_size}
use Rattle.dt_map.specs.declared.entry.Entry.{Entry}
use Rattle.dt_offsets.specs.declared.marks.Marks.{Marks}
use Rattle.dt_map.specs.Typemap.{Marked, shift, shift_entry}
use Rattle.dt_offsets.specs.Span.{shift_marks, joined_marks, reach_of, point}
use Rattle.dt_map.specs.Bounds.{bounds_of, end_of, size_of, external_size_of, alignment, true_lb, true_ub, lower_from, upper_from, natural_end}
use Rattle.dt_map.specs.Numbers.{lesser, greater, least, greatest}
use Rattle.dt_map.specs.Placing.{placed_marks}
use Rattle.dt_map.specs.Constructors.{copies_at}
use Rattle.dt_map.specs.Summary.{Summary, summary_of, shifted, joined, copied, copied_align, ends_or_zero, outer_ends, true_span}
use Rattle.dt_map.specs.Span.{span_of, entry_span}
use Rattle.dt_map.specs.Laws.{BoundsFromSummary, SummaryOfNone, SummaryOfShifted, SummaryOfJoined, SummaryOfCopies}
use Rattle.dt_offsets.proofs.Spans.{both, joined_marks_assoc, joined_marks_none, shift_marks-joined, spans-append, stretched_more}
use Rattle.dt_map.proofs.Extremes.{alignment-pos, alignment-append}

-- entries further on
pub size_of-shift : (x : ℤ) (es : List Entry) → size_of (shift x es) ≡ size_of es
size_of-shift x [] = refl
size_of-shift x (e ∷ es) =
    let h = size_of-shift x es in
    let f : Entry → ℕ = λ e. native_size e.kind in
    omega (arith, sum_by-cons f (shift_entry x e) (shift x es), sum_by-cons f e es)

pub external_size_of-shift : (x : ℤ) (es : List Entry) → external_size_of (shift x es) ≡ external_size_of es
external_size_of-shift x [] = refl
external_size_of-shift x (e ∷ es) =
    let h = external_size_of-shift x es in
    let f : Entry → ℕ = λ e. external_size e.kind in
    omega (arith, sum_by-cons f (shift_entry x e) (shift x es), sum_by-cons f e es)

pub length-shift : (x : ℤ) (es : List Entry) → length (shift x es) ≡ length es
length-shift x [] = refl
length-shift x (e ∷ es) = let h = length-shift x es in omega arith

pub alignment-shift : (x : ℤ) (es : List Entry) → alignment (shift x es) ≡ alignment es
alignment-shift x [] = refl
alignment-shift x (e ∷ es) = ap (max (native_size e.kind)) (alignment-shift x es)

entry_further : (x : ℤ) (e : Entry) → Some (let m : Marks = record { lb = e.disp +ℤ x; ub = end_of (shift_entry x e) } in m) ≡ shift_marks x (entry_span e)
entry_further x e = both _ _ _ _ refl (omega (arith, ints))

pub span_of-shift : (x : ℤ) (es : List Entry) → span_of (shift x es) ≡ shift_marks x (span_of es)
span_of-shift x [] = refl
span_of-shift x (e ∷ es) =
    let here : Option Marks = entry_span e in
    ap (λ s. joined_marks s (span_of (shift x es))) (entry_further x e)
    ∙ (ap (joined_marks (shift_marks x here)) (span_of-shift x es) ∙ sym (shift_marks-joined x here (span_of es)))

pub placed_marks-append : (ms ns : List (ℤ × Marked)) → placed_marks (ms ++ ns) ≡ joined_marks (placed_marks ms) (placed_marks ns)
placed_marks-append [] ns = refl
placed_marks-append (m ∷ ms) ns =
    ap (joined_marks (shift_marks m.0 m.1.marks)) (placed_marks-append ms ns) ∙ sym (joined_marks_assoc (shift_marks m.0 m.1.marks) (placed_marks ms) (placed_marks ns))

-- two summaries with the same parts
pub same_summary : (size size' ext ext' elements elements' align align' : ℕ) (span span' marks marks' : Option Marks) →
    size ≡ size' → ext ≡ ext' → elements ≡ elements' → align ≡ align' → span ≡ span' → marks ≡ marks' →
    (let s : Summary = record { size = size; ext_size = ext; elements = elements; align = align; span = span; marks = marks } in s)
    ≡ record { size = size'; ext_size = ext'; elements = elements'; align = align'; span = span'; marks = marks' }
same_summary size size' ext ext' elements elements' align align' span span' marks marks' e1 e2 e3 e4 e5 e6 = cc

pub summary_of_none : SummaryOfNone
summary_of_none = refl

pub summary_of_shifted : SummaryOfShifted
summary_of_shifted x m =
    let alone = append-nil (shift x m.entries) in
    same_summary _ _ _ _ _ _ _ _ _ _ _ _
    (ap size_of alone ∙ size_of-shift x m.entries)
    (ap external_size_of alone ∙ external_size_of-shift x m.entries)
    (ap length alone ∙ length-shift x m.entries)
    (ap alignment alone ∙ alignment-shift x m.entries)
    (ap span_of alone ∙ span_of-shift x m.entries)
    (joined_marks_none (shift_marks x m.marks))

-- what a member places
abbrev placed : ℤ × Marked → List Entry
placed member = shift member.0 member.1.entries

pub summary_of_joined : SummaryOfJoined
summary_of_joined ms ns =
    let parts = flat_map-append placed ms ns in
    let before = flat_map placed ms in
    let after = flat_map placed ns in
    same_summary _ _ _ _ _ _ _ _ _ _ _ _
    (ap size_of parts ∙ sum_by-append (λ (e : Entry). native_size e.kind) before after)
    (ap external_size_of parts ∙ sum_by-append (λ (e : Entry). external_size e.kind) before after)
    (ap length parts ∙ length-append before after)
    (ap alignment parts ∙ alignment-append before after)
    (ap span_of parts ∙ spans-append entry_span before after)
    (placed_marks-append ms ns)

greater_align : (n align : ℕ) → 0 < align → max align (copied_align n align) ≡ align
greater_align zero align positive = omega arith
greater_align (suc n) align positive = omega arith

-- one copy more
copied_more : (x : ℤ) (reach : Option Marks) (n : ℕ) (s : Summary) → 0 < s.align →
    joined (shifted x s) (copied reach n s) ≡ copied (joined_marks (point x) reach) (suc n) s
copied_more x reach n s positive =
    same_summary _ _ _ _ _ _ _ _ _ _ _ _
    (omega arith) (omega arith) (omega arith) (greater_align n s.align positive) (stretched_more x reach s.span) (stretched_more x reach s.marks)

pub summary_of_copies : SummaryOfCopies
summary_of_copies [] m = same_summary _ _ _ _ _ _ _ _ _ _ _ _ (omega arith) (omega arith) (omega arith) refl refl refl
summary_of_copies (x ∷ offsets) m =
    summary_of_joined ((x, m) ∷ []) (map (λ x. (x, m)) offsets)
    ∙ (ap (λ s. joined s (summary_of (copies_at offsets m))) (summary_of_shifted x m)
    ∙ (ap (joined (shifted x (summary_of m))) (summary_of_copies offsets m)
    ∙ copied_more x (reach_of offsets) (length offsets) (summary_of m) (alignment-pos m.entries)))

-- bounds from a summary
lesser_lb : (x y : ℤ) (s : Option Marks) → lesser (Some x) (option_map (λ m. m.lb) s) ≡ option_map (λ m. m.lb) (joined_marks (Some (record { lb = x; ub = y })) s)
lesser_lb x y None = refl
lesser_lb x y (Some m) = refl

greater_ub : (x y : ℤ) (s : Option Marks) → greater (Some y) (option_map (λ m. m.ub) s) ≡ option_map (λ m. m.ub) (joined_marks (Some (record { lb = x; ub = y })) s)
greater_ub x y None = refl
greater_ub x y (Some m) = refl

least_is : (es : List Entry) → least (map (λ e. e.disp) es) ≡ option_map (λ m. m.lb) (span_of es)
least_is [] = refl
least_is (e ∷ es) = ap (lesser (Some e.disp)) (least_is es) ∙ lesser_lb e.disp (end_of e) (span_of es)

greatest_is : (es : List Entry) → greatest (map end_of es) ≡ option_map (λ m. m.ub) (span_of es)
greatest_is [] = refl
greatest_is (e ∷ es) = ap (greater (Some (end_of e))) (greatest_is es) ∙ greater_ub e.disp (end_of e) (span_of es)

lb_or_zero_is : (s : Option Marks) → unwrap_or (option_map (λ m. m.lb) s) (pos 0) ≡ (ends_or_zero s).lb
lb_or_zero_is None = refl
lb_or_zero_is (Some m) = refl

ub_or_zero_is : (s : Option Marks) → unwrap_or (option_map (λ m. m.ub) s) (pos 0) ≡ (ends_or_zero s).ub
ub_or_zero_is None = refl
ub_or_zero_is (Some m) = refl

pub true_lb_is : (es : List Entry) → true_lb es ≡ (ends_or_zero (span_of es)).lb
true_lb_is es = ap (λ o. unwrap_or o (pos 0)) (least_is es) ∙ lb_or_zero_is (span_of es)

pub true_ub_is : (es : List Entry) → true_ub es ≡ (ends_or_zero (span_of es)).ub
true_ub_is es = ap (λ o. unwrap_or o (pos 0)) (greatest_is es) ∙ ub_or_zero_is (span_of es)

bounds_with : (m : Marked) (marks : Option Marks) (s : Option Marks) → true_lb m.entries ≡ (ends_or_zero s).lb → true_ub m.entries ≡ (ends_or_zero s).ub →
    (lower_from marks m.entries ≡ (outer_ends (ends_or_zero s) (alignment m.entries) marks).lb) × (upper_from marks m.entries ≡ (outer_ends (ends_or_zero s) (alignment m.entries) marks).ub)
bounds_with m None s f g = (f, ap (λ z. natural_end z (true_ub m.entries) (alignment m.entries)) f ∙ ap (λ z. natural_end (ends_or_zero s).lb z (alignment m.entries)) g)
bounds_with m (Some marks) s f g = (refl, refl)

pub bounds_from_summary : BoundsFromSummary
bounds_from_summary m =
    let low = true_lb_is m.entries in
    let high = true_ub_is m.entries in
    let ends = bounds_with m m.marks (span_of m.entries) low high in
    cc

-- true bounds are the ends of the span of the entries
ends_joined : (a : Marks) (s : Option Marks) → Some (ends_or_zero (joined_marks (Some a) s)) ≡ joined_marks (Some a) s
ends_joined a None = refl
ends_joined a (Some s) = refl

pub true_span_is : (m : Marked) → true_span (bounds_of m) ≡ span_of m.entries
true_span_is m = cases m.entries
  where
    cases : (es : List Entry) → cond (length es == 0) None (Some (record { lb = true_lb es; ub = true_ub es })) ≡ span_of es
    cases [] = refl
    cases (e ∷ es) =
        let ends : Option Marks = Some (record { lb = true_lb (e ∷ es); ub = true_ub (e ∷ es) }) in
        ap (λ b. cond b None ends) (eqb-suc-zero (length es))
        ∙ both _ _ _ _ (true_lb_is (e ∷ es)) (true_ub_is (e ∷ es))
        ∙ ends_joined (record { lb = e.disp; ub = end_of e }) (span_of es)
