-- alike, even and stacked blocks are copies of the first one
use Rattle.std.proofs.Common.{◌≡◌, ℕ, zero, suc, ◌+◌, ◌*◌, ◌≤◌, ◌<◌, ℤ, pos, negsuc, ◌+ℤ◌, ◌-ℤ◌, ◌*ℤ◌, Bool, true, ◌&&◌, List, [], ◌∷◌, ◌++◌, map, take, drop, length, get_or, refl, sym, ap, ◌∙◌, arith, append-nil}
use Rattle.std.proofs.lemmas.Int.{ints}
use Rattle.std.proofs.lemmas.List.{length-map, length-take-le, length-drop, drop-drop}
use Rattle.std.proofs.lemmas.Bool.Decides.{Decides-int_eq}
use Rattle.std.proofs.lemmas.Grind.{flat_map-append}
use Rattle.std.proofs.Math.Seq.{take-add}
use Rattle.std.specs.List.{list_all, flat_map}
use Rattle.std.specs.Ordering.{int_eq}
use Rattle.dt_map.specs.declared.entry.Entry.{Entry}
use Rattle.dt_offsets.specs.Offsets.{below}
use Rattle.dt_map.specs.Typemap.{shift}
use Rattle.dt_map.specs.Runs.{placed_at, even, run, natural_extent}
use Rattle.dt_map.specs.Alike.{segment, block_of, first_disp, alike, are_alike, rise_by, are_stacked}
use Rattle.dt_map.specs.BlockLaws.{AlikeBlocksAreCopies, EvenBlocksAreCopies, StackedBlocksAreRun}
use Rattle.dt_map.proofs.Placings.{shift-shift}
use Rattle.dt_map.proofs.Likeness.{shift-zero, shift-relative, alike-Decides, alike_is_equivalence, alike_of_shifted, extent_of_shifted, both_true}
use Rattle.dt_map.proofs.Seats.{Sits, sits_segment, segment_sits, sits_at, sits_copy, length-below, length-even, get_or-even, list_all-below}

-- copies at places pass the tests
alike_copies : (x y : ℤ) (es : List Entry) → alike (shift x es) (shift y es) ≡ true
alike_copies x y es = alike_of_shifted x y es es ∙ alike_is_equivalence.0 es

block_at : (m : List Entry) (y : ℤ) (places : List ℤ) (es : List Entry) (i k : ℕ) → Sits m y (placed_at places es) i → k < length places →
    block_of m i (length es) k ≡ shift (get_or places k (pos 0) +ℤ y) es
block_at m y places es i k h lt = sits_segment (sits_copy m y places es i k h lt)

first_at : (m : List Entry) (y : ℤ) (places : List ℤ) (es : List Entry) (i : ℕ) → Sits m y (placed_at places es) i → 0 < length places →
    segment m i (length es) ≡ shift (get_or places 0 (pos 0) +ℤ y) es
first_at m y places es i h lt = sits_segment (sits_at (i + 0 * length es) i (omega arith) (sits_copy m y places es i 0 h lt))

pub copies_alike : (m : List Entry) (y : ℤ) (places : List ℤ) (es : List Entry) (i : ℕ) → Sits m y (placed_at places es) i → are_alike m i (length es) (length places) ≡ true
copies_alike m y places es i h = list_all-below _ (length places) each
  where
    each : (k : ℕ) → k < length places → alike (block_of m i (length es) k) (segment m i (length es)) ≡ true
    each k lt =
        ap (λ b. alike b (segment m i (length es))) (block_at m y places es i k h lt)
        ∙ (ap (alike (shift (get_or places k (pos 0) +ℤ y) es)) (first_at m y places es i h (omega arith))
        ∙ alike_copies (get_or places k (pos 0) +ℤ y) (get_or places 0 (pos 0) +ℤ y) es)

first_disp-shift : (x : ℤ) (es : List Entry) → 0 < length es → first_disp (shift x es) ≡ first_disp es +ℤ x
first_disp-shift x [] some = absurd (omega arith)
first_disp-shift x (e ∷ es) some = refl

no_steps : (step : ℤ) → pos 0 *ℤ step ≡ pos 0
no_steps (pos s) = omega (arith, ints)
no_steps (negsuc s) = omega (arith, ints)

pub copies_rise : (m : List Entry) (y : ℤ) (count : ℕ) (step : ℤ) (es : List Entry) (i : ℕ) → Sits m y (placed_at (even count step) es) i → 0 < length es →
    rise_by step m i (length es) count ≡ true
copies_rise m y count step es i h some = list_all-below _ count each
  where
    risen : (a z zero_steps : ℤ) → zero_steps ≡ pos 0 → a +ℤ (z +ℤ y) ≡ (a +ℤ (zero_steps +ℤ y)) +ℤ z
    risen a z zero_steps e = omega (arith, ints)

    at : (k : ℕ) → k < count → first_disp (block_of m i (length es) k) ≡ first_disp es +ℤ ((pos k *ℤ step) +ℤ y)
    at k lt =
        ap first_disp (block_at m y (even count step) es i k h (omega (arith, length-even count step)))
        ∙ (first_disp-shift (get_or (even count step) k (pos 0) +ℤ y) es some
        ∙ ap (λ z. first_disp es +ℤ (z +ℤ y)) (get_or-even count step k lt))

    from : 0 < count → first_disp (segment m i (length es)) ≡ first_disp es +ℤ ((pos 0 *ℤ step) +ℤ y)
    from lt =
        ap first_disp (first_at m y (even count step) es i h (omega (arith, length-even count step)))
        ∙ (first_disp-shift (get_or (even count step) 0 (pos 0) +ℤ y) es some
        ∙ ap (λ z. first_disp es +ℤ (z +ℤ y)) (get_or-even count step 0 lt))

    each : (k : ℕ) → k < count → int_eq (first_disp (block_of m i (length es) k)) (first_disp (segment m i (length es)) +ℤ (pos k *ℤ step)) ≡ true
    each k lt =
        (Decides-int_eq _ _).1
        (at k lt ∙ (risen (first_disp es) (pos k *ℤ step) (pos 0 *ℤ step) (no_steps step) ∙ ap (λ z. z +ℤ (pos k *ℤ step)) (sym (from (omega arith)))))

both : {a b : Bool} → a ≡ true → b ≡ true → (a && b) ≡ true
both {b = b} e f = ap (λ c. c && b) e ∙ f

pub runs_stacked : (m : List Entry) (y : ℤ) (block : ℕ) (es : List Entry) (i : ℕ) → Sits m y (run block es) i → 0 < block → 0 < length es →
    are_stacked m i (length es) block ≡ true
runs_stacked m y block es i h one some =
    let places = even block (natural_extent es) in
    let few = length-even block (natural_extent es) in
    let same : natural_extent (segment m i (length es)) ≡ natural_extent es =
    ap natural_extent (first_at m y places es i h (omega (arith, few))) ∙ extent_of_shifted (get_or places 0 (pos 0) +ℤ y) es in
    both (ap (are_alike m i (length es)) (sym few) ∙ copies_alike m y places es i h)
    (ap (λ step. rise_by step m i (length es) block) same ∙ copies_rise m y block (natural_extent es) es i h some)

-- the other way: blocks that pass are copies of the first one
pub blocks_joined : (m : List Entry) (start len count : ℕ) → segment m start (count * len) ≡ flat_map (block_of m start len) (below count)
blocks_joined m start len zero = ap (λ n. segment m start n) (none len)
  where
    none : (n : ℕ) → 0 * n ≡ 0
    none n = omega arith
blocks_joined m start len (suc n) =
    let more : suc n * len ≡ n * len + len = omega arith in
    ap (λ k. segment m start k) more
    ∙ (take-add (n * len) len (drop start m)
    ∙ (ap (λ s. s ++ take len (drop (n * len) (drop start m))) (blocks_joined m start len n)
    ∙ (ap (λ s. flat_map (block_of m start len) (below n) ++ take len s) (drops m start (n * len))
    ∙ (ap (λ s. flat_map (block_of m start len) (below n) ++ s) (sym (append-nil (block_of m start len n)))
    ∙ sym (flat_map-append (block_of m start len) (below n) (n ∷ []))))))
  where
    drops : (m : List Entry) (a b : ℕ) → drop b (drop a m) ≡ drop (a + b) m
    drops m a b = drop-drop b a m

pub alike_by : (x : ℤ) (es fs : List Entry) → alike es fs ≡ true → first_disp es ≡ first_disp fs +ℤ x → es ≡ shift x fs
alike_by x es fs h apart =
    sym (shift-relative es)
    ∙ (ap (shift (first_disp es)) ((alike-Decides es fs).0 h)
    ∙ (shift-shift (first_disp es) (pos 0 -ℤ first_disp fs) fs ∙ ap (λ z. shift z fs) (by (first_disp es) (first_disp fs) apart)))
  where
    by : (d f : ℤ) → d ≡ f +ℤ x → (pos 0 -ℤ f) +ℤ d ≡ x
    by d f e = omega (arith, ints)

joined_as : (t r : ℕ → Bool) (p : ℕ → ℤ) (f : ℕ → List Entry) (es : List Entry) (ks : List ℕ) → list_all t ks ≡ true → list_all r ks ≡ true →
    ((k : ℕ) → t k ≡ true → r k ≡ true → f k ≡ shift (p k) es) → flat_map f ks ≡ placed_at (map p ks) es
joined_as t r p f es [] all_t all_r each = refl
joined_as t r p f es (k ∷ ks) all_t all_r each =
    let one = both_true (t k) (list_all t ks) all_t in
    let two = both_true (r k) (list_all r ks) all_r in
    ap (λ s. s ++ flat_map f ks) (each k one.0 two.0) ∙ ap (λ s. shift (p k) es ++ s) (joined_as t r p f es ks one.1 two.1 each)

-- how far a block stands from the first one
abbrev from_first : List Entry → ℕ → ℕ → ℕ → ℤ
from_first m start len k = first_disp (block_of m start len k) -ℤ first_disp (segment m start len)

pub alike_joined : (m : List Entry) (start len count : ℕ) → are_alike m start len count ≡ true →
    segment m start (count * len) ≡ placed_at (map (from_first m start len) (below count)) (segment m start len)
alike_joined m start len count h = blocks_joined m start len count ∙ joined_as _ _ (from_first m start len) (block_of m start len) (segment m start len) (below count) h h each
  where
    apart : (d f : ℤ) → d ≡ f +ℤ (d -ℤ f)
    apart d f = omega (arith, ints)

    each : (k : ℕ) → alike (block_of m start len k) (segment m start len) ≡ true → alike (block_of m start len k) (segment m start len) ≡ true →
        block_of m start len k ≡ shift (from_first m start len k) (segment m start len)
    each k t r = alike_by (from_first m start len k) (block_of m start len k) (segment m start len) t (apart (first_disp (block_of m start len k)) (first_disp (segment m start len)))

pub even_joined : (m : List Entry) (start len count : ℕ) (step : ℤ) → are_alike m start len count ≡ true → rise_by step m start len count ≡ true →
    segment m start (count * len) ≡ placed_at (even count step) (segment m start len)
even_joined m start len count step h rise = blocks_joined m start len count ∙ joined_as _ _ (λ i. pos i *ℤ step) (block_of m start len) (segment m start len) (below count) h rise each
  where
    each : (k : ℕ) → alike (block_of m start len k) (segment m start len) ≡ true →
        int_eq (first_disp (block_of m start len k)) (first_disp (segment m start len) +ℤ (pos k *ℤ step)) ≡ true →
        block_of m start len k ≡ shift (pos k *ℤ step) (segment m start len)
    each k t r = alike_by (pos k *ℤ step) (block_of m start len k) (segment m start len) t ((Decides-int_eq _ _).0 r)

pub stacked_joined : (m : List Entry) (start len count : ℕ) → are_stacked m start len count ≡ true → segment m start (count * len) ≡ run count (segment m start len)
stacked_joined m start len count h =
    let parts = both_true (are_alike m start len count) (rise_by (natural_extent (segment m start len)) m start len count) h in
    even_joined m start len count (natural_extent (segment m start len)) parts.0 parts.1

-- both ways
length-segment : (m : List Entry) (start len count : ℕ) → 0 < count → start + count * len ≤ length m → length (segment m start len) ≡ len
length-segment m start len zero one inside = absurd (omega arith)
length-segment m start len (suc n) one inside = length-take-le len (drop start m) (omega (arith, length-drop start m))

copies_sit : (m : List Entry) (start len count : ℕ) (places : List ℤ) → start + count * len ≤ length m → segment m start (count * len) ≡ placed_at places (segment m start len) →
    Sits m (pos 0) (placed_at places (segment m start len)) start
copies_sit m start len count places inside same =
    segment_sits m (pos 0) (placed_at places (segment m start len)) start (count * len) inside (same ∙ sym (shift-zero (placed_at places (segment m start len))))

are_copies : (m : List Entry) (start len count : ℕ) (places : List ℤ) → start + count * len ≤ length m → length places ≡ count →
    segment m start (count * len) ≡ placed_at places (segment m start len) → are_alike m start len count ≡ true
are_copies m start len zero places inside few same = refl
are_copies m start len (suc n) places inside few same =
    let long = length-segment m start len (suc n) (omega arith) inside in
    ap (are_alike m start len) (sym few)
    ∙ (ap (λ l. are_alike m start l (length places)) (sym long)
    ∙ copies_alike m (pos 0) places (segment m start len) start (copies_sit m start len (suc n) places inside same))

pub alike_blocks_are_copies : AlikeBlocksAreCopies
alike_blocks_are_copies m start len count inside = (
  λ h. (map (from_first m start len) (below count), length-map (below count) (from_first m start len) ∙ length-below count, alike_joined m start len count h),
  λ h. are_copies m start len count h.0 inside h.1 h.2,
)

rise_evenly : (m : List Entry) (start len count : ℕ) (step : ℤ) → 0 < len → start + count * len ≤ length m →
    segment m start (count * len) ≡ placed_at (even count step) (segment m start len) → rise_by step m start len count ≡ true
rise_evenly m start len zero step some inside same = refl
rise_evenly m start len (suc n) step some inside same =
    let long = length-segment m start len (suc n) (omega arith) inside in
    ap (λ l. rise_by step m start l (suc n)) (sym long)
    ∙ copies_rise m (pos 0) (suc n) step (segment m start len) start (copies_sit m start len (suc n) (even (suc n) step) inside same) (omega (arith, long))

pub even_blocks_are_copies : EvenBlocksAreCopies
even_blocks_are_copies m start len count step some inside = (
  λ h. even_joined m start len count step h.0 h.1,
  λ same. (are_copies m start len count (even count step) inside (length-even count step) same, rise_evenly m start len count step some inside same),
)

pub stacked_blocks_are_run : StackedBlocksAreRun
stacked_blocks_are_run m start len count some inside = (
  stacked_joined m start len count,
  λ same.
      let step = natural_extent (segment m start len) in
      both (are_copies m start len count (even count step) inside (length-even count step) same) (rise_evenly m start len count step some inside same),
)
