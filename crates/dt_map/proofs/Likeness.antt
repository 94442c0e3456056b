-- alike entries, and blocks of them
use Rattle.std.proofs.Common.{◌≡◌, ℕ, ◌+◌, ◌*◌, ℤ, pos, nat_abs, ◌+ℤ◌, ◌-ℤ◌, ◌*ℤ◌, Bool, true, false, ◌&&◌, Option, Some, None, List, [], ◌∷◌, take, drop, refl, sym, ap, ◌∙◌, arith}
use Rattle.std.proofs.lemmas.Int.{ints}
use Rattle.std.proofs.lemmas.List.{take-map, drop-map}
use Rattle.std.proofs.lemmas.Bool.Decides.{Decides-int_eq, Decides-and, Decides-like, same_from_decides}
use Rattle.std.proofs.lemmas.Slice.Eq.{slice_eq-Decides, bytes_eq-Decides}
use Rattle.std.specs.Bool.{Decides}
use Rattle.std.specs.List.{list_all}
use Rattle.std.specs.Ordering.{int_eq}
use Rattle.std.specs.Str.{bytes_eq}
use Rattle.dt_kinds.specs.declared.kind.Kind.{Kind}
use Rattle.dt_kinds.specs.Kind.{name_of}
use Rattle.dt_kinds.proofs.Table.{names_differ}
use Rattle.dt_map.specs.declared.entry.Entry.{Entry}
use Rattle.dt_offsets.specs.declared.marks.Marks.{Marks}
use Rattle.dt_offsets.specs.Offsets.{below}
use Rattle.dt_map.specs.Numbers.{padding}
use Rattle.dt_map.specs.Typemap.{shift, shift_entry}
use Rattle.dt_offsets.specs.Span.{shift_marks}
use Rattle.dt_map.specs.Bounds.{alignment, true_ub, natural_end}
use Rattle.dt_map.specs.Span.{span_of}
use Rattle.dt_map.specs.Summary.{ends_or_zero}
use Rattle.dt_map.specs.Runs.{natural_extent}
use Rattle.dt_map.specs.Alike.{segment, block_of, first_disp, relative, same_entry, alike, are_alike, rise_by, are_stacked}
use Rattle.dt_map.specs.AlikeLaws.{AlikeDecides, AlikeIsShifted, AlikeIsEquivalence, AlikeOfShifted, SegmentsOfAlike, ExtentOfShifted, ExtentOfAlike, BlocksOfShifted}
use Rattle.dt_map.proofs.Placings.{shift-shift}
use Rattle.dt_map.proofs.Summaries.{alignment-shift, span_of-shift, true_lb_is, true_ub_is}

-- the natural extent, by the span and the alignment
abbrev extent_by : Option Marks → ℕ → ℤ
extent_by span align = natural_end (ends_or_zero span).lb (ends_or_zero span).ub align -ℤ (ends_or_zero span).lb

extent_is : (es : List Entry) → natural_extent es ≡ extent_by (span_of es) (alignment es)
extent_is es =
    ap (λ z. natural_end z (true_ub es) (alignment es) -ℤ z) (true_lb_is es)
    ∙ ap (λ z. natural_end ((ends_or_zero (span_of es)).lb) z (alignment es) -ℤ (ends_or_zero (span_of es)).lb) (true_ub_is es)

extent_by-shift : (x : ℤ) (span : Option Marks) (align : ℕ) → extent_by (shift_marks x span) align ≡ extent_by span align
extent_by-shift x None align = refl
extent_by-shift x (Some m) align =
    let far : nat_abs ((m.ub +ℤ x) -ℤ (m.lb +ℤ x)) ≡ nat_abs (m.ub -ℤ m.lb) = omega (arith, ints) in
    ap (λ n. ((m.ub +ℤ x) +ℤ pos (padding n align)) -ℤ (m.lb +ℤ x)) far ∙ moved m.ub m.lb (padding (nat_abs (m.ub -ℤ m.lb)) align)
  where
    moved : (high low : ℤ) (p : ℕ) → ((high +ℤ x) +ℤ pos p) -ℤ (low +ℤ x) ≡ (high +ℤ pos p) -ℤ low
    moved high low p = omega (arith, ints)

pub extent_of_shifted : ExtentOfShifted
extent_of_shifted x es =
    extent_is (shift x es)
    ∙ (ap (λ s. extent_by s (alignment (shift x es))) (span_of-shift x es)
    ∙ (ap (extent_by (shift_marks x (span_of es))) (alignment-shift x es)
    ∙ (extent_by-shift x (span_of es) (alignment es) ∙ sym (extent_is es))))

-- entries that don't move, and entries relative to their first one
pub shift-zero : (es : List Entry) → shift (pos 0) es ≡ es
shift-zero [] = refl
shift-zero (e ∷ es) =
    let here : shift_entry (pos 0) e ≡ e = ap (λ d. let r : Entry = record { kind = e.kind; disp = d } in r) (omega (arith, ints)) in
    ap (λ f. f ∷ shift (pos 0) es) here ∙ ap (λ s. e ∷ s) (shift-zero es)

pub relative-shift : (x : ℤ) (es : List Entry) → relative (shift x es) ≡ relative es
relative-shift x [] = refl
relative-shift x (e ∷ es) =
    shift-shift (pos 0 -ℤ (e.disp +ℤ x)) x (e ∷ es) ∙ ap (λ z. shift z (e ∷ es)) (back e.disp x)
  where
    back : (d x : ℤ) → x +ℤ (pos 0 -ℤ (d +ℤ x)) ≡ pos 0 -ℤ d
    back d x = omega (arith, ints)

pub shift-relative : (es : List Entry) → shift (first_disp es) (relative es) ≡ es
shift-relative es = shift-shift (first_disp es) (pos 0 -ℤ first_disp es) es ∙ (ap (λ z. shift z es) (none (first_disp es)) ∙ shift-zero es)
  where
    none : (d : ℤ) → (pos 0 -ℤ d) +ℤ d ≡ pos 0
    none d = omega (arith, ints)

-- alikeness
same_parts : (k l : Kind) (d f : ℤ) → k ≡ l → d ≡ f → (let e : Entry = record { kind = k; disp = d } in e) ≡ record { kind = l; disp = f }
same_parts k l d f same_kind same_disp = cc

same_entry-Decides : (e f : Entry) → Decides (same_entry e f) (e ≡ f)
same_entry-Decides e f =
    let kinds = Decides-like (bytes_eq (name_of e.kind) (name_of f.kind)) (names_differ e.kind f.kind) (ap name_of) (bytes_eq-Decides (name_of e.kind) (name_of f.kind)) in
    Decides-like (same_entry e f) (λ h. same_parts e.kind f.kind e.disp f.disp h.0 h.1) (λ h. (ap (λ (e : Entry). e.kind) h, ap (λ (e : Entry). e.disp) h))
    (Decides-and (bytes_eq (name_of e.kind) (name_of f.kind)) (int_eq e.disp f.disp) kinds (Decides-int_eq e.disp f.disp))

pub alike-Decides : (es fs : List Entry) → Decides (alike es fs) (relative es ≡ relative fs)
alike-Decides es fs = slice_eq-Decides {E = same_entry} same_entry-Decides (relative es) (relative fs) (alike es fs) refl

pub alike_decides : AlikeDecides
alike_decides es fs = alike-Decides es fs

pub alike_is_shifted : AlikeIsShifted
alike_is_shifted es fs = (
  λ h. (
    (pos 0 -ℤ first_disp fs) +ℤ first_disp es,
    sym (shift-relative es) ∙ (ap (shift (first_disp es)) ((alike-Decides es fs).0 h) ∙ shift-shift (first_disp es) (pos 0 -ℤ first_disp fs) fs),
  ),
  λ h. (alike-Decides es fs).1 (ap relative h.1 ∙ relative-shift h.0 fs),
)

pub alike_is_equivalence : AlikeIsEquivalence
alike_is_equivalence = (
  λ es. (alike-Decides es es).1 refl,
  λ es fs h. (alike-Decides fs es).1 (sym ((alike-Decides es fs).0 h)),
  λ es fs gs h k. (alike-Decides es gs).1 ((alike-Decides es fs).0 h ∙ (alike-Decides fs gs).0 k),
)

pub alike_of_shifted : AlikeOfShifted
alike_of_shifted x y es fs =
    same_from_decides (alike (shift x es) (shift y fs)) (alike es fs) (Decides-like _ to from (alike-Decides (shift x es) (shift y fs))) (alike-Decides es fs)
  where
    to : relative (shift x es) ≡ relative (shift y fs) → relative es ≡ relative fs
    to h = sym (relative-shift x es) ∙ (h ∙ relative-shift y fs)

    from : relative es ≡ relative fs → relative (shift x es) ≡ relative (shift y fs)
    from h = relative-shift x es ∙ (h ∙ sym (relative-shift y fs))

pub segment-shift : (x : ℤ) (m : List Entry) (start len : ℕ) → segment (shift x m) start len ≡ shift x (segment m start len)
segment-shift x m start len = ap (take len) (drop-map (shift_entry x) start m) ∙ take-map (shift_entry x) len (drop start m)

pub segments_of_alike : SegmentsOfAlike
segments_of_alike es fs start len h =
    let moved = (alike_is_shifted es fs).0 h in
    (alike_is_shifted (segment es start len) (segment fs start len)).1
    (moved.0, ap (λ m. segment m start len) moved.1 ∙ segment-shift moved.0 fs start len)

pub extent_of_alike : ExtentOfAlike
extent_of_alike es fs h =
    let moved = (alike_is_shifted es fs).0 h in
    ap natural_extent moved.1 ∙ extent_of_shifted moved.0 fs

-- tests of blocks
all_same : (p q : ℕ → Bool) → ((k : ℕ) → p k ≡ q k) → (ks : List ℕ) → list_all p ks ≡ list_all q ks
all_same p q same [] = refl
all_same p q same (k ∷ ks) = ap (λ b. b && list_all p ks) (same k) ∙ ap (λ b. q k && b) (all_same p q same ks)

block_alike : (x : ℤ) (m : List Entry) (start len k : ℕ) →
    alike (block_of (shift x m) start len k) (segment (shift x m) start len) ≡ alike (block_of m start len k) (segment m start len)
block_alike x m start len k =
    ap (λ b. alike b (segment (shift x m) start len)) (segment-shift x m (start + k * len) len)
    ∙ (ap (alike (shift x (block_of m start len k))) (segment-shift x m start len)
    ∙ alike_of_shifted x x (block_of m start len k) (segment m start len))

alike_blocks : (x : ℤ) (m : List Entry) (start len count : ℕ) → are_alike (shift x m) start len count ≡ are_alike m start len count
alike_blocks x m start len count = all_same _ _ (block_alike x m start len) (below count)

-- the step from one of two alike blocks to the other
risen : (x step : ℤ) (es fs : List Entry) → alike es fs ≡ true →
    int_eq (first_disp (shift x es)) (first_disp (shift x fs) +ℤ step) ≡ int_eq (first_disp es) (first_disp fs +ℤ step)
risen x step [] [] h = refl
risen x step [] (f ∷ fs) h = absurd (nothing ((alike-Decides [] (f ∷ fs)).0 h))
  where
    nothing : relative [] ≡ relative (f ∷ fs) → ⊥
    nothing e = cc
risen x step (e ∷ es) [] h = absurd (nothing ((alike-Decides (e ∷ es) []).0 h))
  where
    nothing : relative (e ∷ es) ≡ relative [] → ⊥
    nothing e = cc
risen x step (e ∷ es) (f ∷ fs) h =
    same_from_decides _ _ (Decides-like _ (to e.disp f.disp) (from e.disp f.disp) (Decides-int_eq (e.disp +ℤ x) ((f.disp +ℤ x) +ℤ step))) (Decides-int_eq e.disp (f.disp +ℤ step))
  where
    to : (d g : ℤ) → d +ℤ x ≡ (g +ℤ x) +ℤ step → d ≡ g +ℤ step
    to d g same = omega (arith, ints)

    from : (d g : ℤ) → d ≡ g +ℤ step → d +ℤ x ≡ (g +ℤ x) +ℤ step
    from d g same = omega (arith, ints)

pub both_true : (a b : Bool) → (a && b) ≡ true → (a ≡ true) × (b ≡ true)
both_true true true e = (refl, refl)
both_true true false e = cc
both_true false b e = cc

rises_shifted : (x step : ℤ) (m : List Entry) (start len : ℕ) (ks : List ℕ) →
    list_all (λ k. alike (block_of m start len k) (segment m start len)) ks ≡ true →
    list_all (λ k. int_eq (first_disp (block_of (shift x m) start len k)) (first_disp (segment (shift x m) start len) +ℤ (pos k *ℤ step))) ks
    ≡ list_all (λ k. int_eq (first_disp (block_of m start len k)) (first_disp (segment m start len) +ℤ (pos k *ℤ step))) ks
rises_shifted x step m start len [] h = refl
rises_shifted x step m start len (k ∷ ks) h =
    let parts = both_true (alike (block_of m start len k) (segment m start len)) (list_all (λ k. alike (block_of m start len k) (segment m start len)) ks) h in
    let rest = list_all (λ k. int_eq (first_disp (block_of (shift x m) start len k)) (first_disp (segment (shift x m) start len) +ℤ (pos k *ℤ step))) ks in
    let one : ℤ → ℤ → Bool = λ a b. int_eq a (b +ℤ (pos k *ℤ step)) in
    let here : one (first_disp (block_of (shift x m) start len k)) (first_disp (segment (shift x m) start len)) ≡ one (first_disp (block_of m start len k)) (first_disp (segment m start len)) =
    ap (λ b. one (first_disp b) (first_disp (segment (shift x m) start len))) (segment-shift x m (start + k * len) len)
    ∙ (ap (λ b. one (first_disp (shift x (block_of m start len k))) (first_disp b)) (segment-shift x m start len)
    ∙ risen x (pos k *ℤ step) (block_of m start len k) (segment m start len) parts.0) in
    ap (λ b. b && rest) here ∙ ap (λ b. one (first_disp (block_of m start len k)) (first_disp (segment m start len)) && b) (rises_shifted x step m start len ks parts.1)

both_tests : (a b r s : Bool) → a ≡ b → (b ≡ true → r ≡ s) → (a && r) ≡ (b && s)
both_tests a true r s same rest = ap (λ t. t && r) same ∙ rest refl
both_tests a false r s same rest = ap (λ t. t && r) same

stacked_blocks : (x : ℤ) (m : List Entry) (start len count : ℕ) → are_stacked (shift x m) start len count ≡ are_stacked m start len count
stacked_blocks x m start len count =
    let step = natural_extent (segment m start len) in
    let same : natural_extent (segment (shift x m) start len) ≡ step = ap natural_extent (segment-shift x m start len) ∙ extent_of_shifted x (segment m start len) in
    both_tests _ _ _ _ (alike_blocks x m start len count)
    (λ h. ap (λ s. rise_by s (shift x m) start len count) same ∙ rises_shifted x step m start len (below count) h)

pub blocks_of_shifted : BlocksOfShifted
blocks_of_shifted x m start len count = (alike_blocks x m start len count, stacked_blocks x m start len count)
