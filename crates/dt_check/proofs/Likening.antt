-- the greatest values among alike segments are valid
use Rattle.std.proofs.Common.{◌≡◌, ◌⊎◌, inl, inr, ℕ, zero, suc, ◌+◌, ◌-◌, ◌*◌, ◌≤◌, ◌<◌, Bool, true, false, ◌&&◌, cond, ℤ, pos, ◌+ℤ◌, ◌*ℤ◌, List, [], ◌∷◌, take, drop, length, refl, sym, ap, ◌∙◌, subst, arith}
use Rattle.std.specs.List.{All, sum, list_all}
use Rattle.std.specs.Ordering.{int_eq}
use Rattle.std.proofs.lemmas.Bool.{cases_lt}
use Rattle.std.proofs.lemmas.Bool.Decides.{Decides-int_eq}
use Rattle.std.proofs.lemmas.Int.{ints}
use Rattle.std.proofs.lemmas.List.{drop-take, take-take, drop-drop, length-take-le, length-drop}
use Rattle.std.proofs.lemmas.List.Elements.{All-head, All-tail}
use Rattle.std.proofs.lemmas.List.Folds.{list_all-append}
use Rattle.std.proofs.lemmas.List.Sums.{sum_by-cons}
use Rattle.std.proofs.Math.Nat.{mul-le-mul_right}
use Rattle.dt_offsets.specs.Offsets.{below}
use Rattle.dt_map.specs.declared.entry.Entry.{Entry}
use Rattle.dt_map.specs.Alike.{segment, block_of, first_disp, alike, are_alike, rise_by, are_stacked}
use Rattle.dt_map.specs.Runs.{natural_extent}
use Rattle.dt_map.specs.Typemap.{shift}
use Rattle.dt_map.proofs.Likeness.{both_true, alike_is_shifted, alike_is_equivalence, segments_of_alike, segment-shift, extent_of_alike}
use Rattle.dt_map.proofs.Seats.{list_all-below}
use Rattle.dt_tree.specs.Weights.{Weights}
use Rattle.dt_normal.specs.Table.{Table, least_run, cut_cost}
use Rattle.dt_normal.proofs.Bounds.{least_run-le, least_run_is_least}
use Rattle.dt_check.specs.Failing.{HoldsAt}
use Rattle.dt_check.specs.Greatest.{greatest_below, greatest_alike, GreatestAlikeIsValid, GreatestIsOfClasses}
use Rattle.dt_check.proofs.Everywhere.{valid_everywhere}

-- the greatest value is that of one that passes, or 0, and none that passes is above it
greatest_of : (test : ℕ → Bool) (value : ℕ → ℕ) (n : ℕ)
    → (greatest_below test value n ≡ 0) ⊎ ((k : ℕ) × (k < n) × (test k ≡ true) × (greatest_below test value n ≡ value k))
greatest_of test value zero = inl refl
greatest_of test value (suc n) = of (test n) refl (greatest_of test value n)
  where
    last : (b : Bool) → test n ≡ b → (cond (test n) (value n) 0 ≡ 0) ⊎ ((test n ≡ true) × (cond (test n) (value n) 0 ≡ value n))
    last true is = inr (is, ap (λ b. cond b (value n) 0) is)
    last false is = inl (ap (λ b. cond b (value n) 0) is)

    of : (b : Bool) → test n ≡ b → (greatest_below test value n ≡ 0) ⊎ ((k : ℕ) × (k < n) × (test k ≡ true) × (greatest_below test value n ≡ value k))
        → (greatest_below test value (suc n) ≡ 0) ⊎ ((k : ℕ) × (k < suc n) × (test k ≡ true) × (greatest_below test value (suc n) ≡ value k))
    of b is before =
        elim (cases_lt (greatest_below test value n) (cond (test n) (value n) 0)) [
          | inl above ↦ elim (last b is) [
            | inl none ↦ inl (omega (arith, above, none))
            | inr here ↦ inr (n, omega arith, here.0, omega (arith, above, here.1))
          ]
          | inr from ↦ elim before [
            | inl none ↦ inl (omega (arith, from, none))
            | inr h ↦ inr (h.0, omega (arith, h.1), h.2, omega (arith, from, h.3))
          ]
        ]

greatest_above : (test : ℕ → Bool) (value : ℕ → ℕ) (n k : ℕ) → k < n → test k ≡ true → value k ≤ greatest_below test value n
greatest_above test value zero k lt passes = absurd (omega arith)
greatest_above test value (suc n) k lt passes =
    elim (cases_lt k n) [
      | inl less ↦ omega (arith, greatest_above test value n k less passes)
      | inr from ↦
          let same : k ≡ n = omega arith in
          omega (arith, ap value same, ap (λ b. cond b (value n) 0) (subst (λ j. test j ≡ true) same passes))
    ]

-- segments of segments
in_segment : (m : List Entry) (start len at size : ℕ) → at + size ≤ len → segment (segment m start len) at size ≡ segment m (start + at) size
in_segment m start len at size inside =
    let whole : at + (len - at) ≡ len = omega arith in
    ap (λ n. take size (drop at (take n (drop start m)))) (sym whole)
    ∙ (ap (take size) (drop-take at (len - at) (drop start m)) ∙ (take-take size (len - at) (drop at (drop start m)) (omega arith) ∙ ap (take size) (drop-drop at start m)))

-- two segments of one length inside the list, the one alike to the other
record AreLike (m : List Entry) (one other len : ℕ) : Type 0 where
  same : alike (segment m one len) (segment m other len) ≡ true
  one_inside : one + len ≤ length m
  other_inside : other + len ≤ length m

part_like : (m : List Entry) (one other len at size : ℕ) → AreLike m one other len → at + size ≤ len → AreLike m (one + at) (other + at) size
part_like m one other len at size like inside = record {
  same = subst (λ es. alike es (segment m (other + at) size) ≡ true) (in_segment m one len at size inside)
      (subst (λ es. alike (segment (segment m one len) at size) es ≡ true) (in_segment m other len at size inside) (segments_of_alike (segment m one len) (segment m other len) at size like.same));
  one_inside = omega (arith, like.one_inside, inside);
  other_inside = omega (arith, like.other_inside, inside);
}

back : (m : List Entry) (one other len : ℕ) → AreLike m one other len → AreLike m other one len
back m one other len like = record {
  same = alike_is_equivalence.1 (segment m one len) (segment m other len) like.same;
  one_inside = like.other_inside;
  other_inside = like.one_inside;
}

front_like : (m : List Entry) (one other len size : ℕ) → AreLike m one other len → size ≤ len → AreLike m one other size
front_like m one other len size like inside =
    let still : (i : ℕ) → i + 0 ≡ i = λ i. omega arith in
    subst (λ i. AreLike m i other size) (still one) (subst (λ j. AreLike m (one + 0) j size) (still other) (part_like m one other len 0 size like (omega (arith, inside))))

-- tests of blocks, one by one
each_below : (p : ℕ → Bool) (n : ℕ) → list_all p (below n) ≡ true → (k : ℕ) → k < n → p k ≡ true
each_below p zero all k lt = absurd (omega arith)
each_below p (suc n) all k lt =
    let parts = both_true (list_all p (below n)) (p n && true) (sym (list_all-append p (below n) (n ∷ [])) ∙ all) in
    elim (cases_lt k n) [
      | inl less ↦ each_below p n parts.0 k less
      | inr from ↦
          let same : k ≡ n = omega arith in
          subst (λ j. p j ≡ true) (sym same) (both_true (p n) true parts.1).0
    ]

block_inside : (len block count k : ℕ) → count * block ≤ len → k < count → k * block + block ≤ len
block_inside len block count k inside lt = omega (arith, inside, mul-le-mul_right {m = suc k} {n = count} block (omega arith))

blocks_like : (m : List Entry) (one other len block count : ℕ) → AreLike m one other len → count * block ≤ len → are_alike m one block count ≡ true → are_alike m other block count ≡ true
blocks_like m one other len block count like inside all = list_all-below _ count (λ k lt.
    let within = block_inside len block count k inside lt in
    let here = part_like m one other len (k * block) block like within in
    let first = front_like m one other len block like (omega (arith, within)) in
    alike_is_equivalence.2 (block_of m other block k) (block_of m one block k) (segment m other block) (back m _ _ block here).same
    (alike_is_equivalence.2 (block_of m one block k) (segment m one block) (segment m other block) (each_below (λ j. alike (block_of m one block j) (segment m one block)) count all k lt) first.same))

first_moved : (x : ℤ) (es fs : List Entry) → es ≡ shift x fs → 0 < length fs → first_disp es ≡ first_disp fs +ℤ x
first_moved x es [] is some = absurd (omega arith)
first_moved x es (f ∷ fs) is some = ap first_disp is

length-segment : (m : List Entry) (start len : ℕ) → start + len ≤ length m → length (segment m start len) ≡ len
length-segment m start len inside = length-take-le len (drop start m) (omega (arith, length-drop start m))

rises_like : (m : List Entry) (one other len block count : ℕ) (step : ℤ) → AreLike m one other len → count * block ≤ len → 0 < block → rise_by step m one block count ≡ true → rise_by step m other block count ≡ true
rises_like m one other len block count step like inside some all = list_all-below _ count each
  where
    moved : (x : ℤ) × (segment m one len ≡ shift x (segment m other len))
    moved = (alike_is_shifted (segment m one len) (segment m other len)).0 like.same

    at : (k : ℕ) → k + block ≤ len → first_disp (segment m (one + k) block) ≡ first_disp (segment m (other + k) block) +ℤ moved.0
    at k within =
        first_moved moved.0 (segment m (one + k) block) (segment m (other + k) block)
        (sym (in_segment m one len k block within) ∙ (ap (λ es. segment es k block) moved.1 ∙ (segment-shift moved.0 (segment m other len) k block ∙ ap (shift moved.0) (in_segment m other len k block within))))
        (omega (arith, some, length-segment m (other + k) block (omega (arith, like.other_inside, within))))

    start : block ≤ len → first_disp (segment m one block) ≡ first_disp (segment m other block) +ℤ moved.0
    start within =
        let still : (i : ℕ) → i + 0 ≡ i = λ i. omega arith in
        subst (λ i. first_disp (segment m i block) ≡ first_disp (segment m other block) +ℤ moved.0) (still one)
        (subst (λ j. first_disp (segment m (one + 0) block) ≡ first_disp (segment m j block) +ℤ moved.0) (still other) (at 0 (omega arith)))

    stepped : (a b c d x z : ℤ) → a ≡ b +ℤ x → c ≡ d +ℤ x → a ≡ c +ℤ z → b ≡ d +ℤ z
    stepped a b c d x z p q r = omega (arith, ints)

    each : (k : ℕ) → k < count → int_eq (first_disp (block_of m other block k)) (first_disp (segment m other block) +ℤ (pos k *ℤ step)) ≡ true
    each k lt =
        let within = block_inside len block count k inside lt in
        (Decides-int_eq _ _).1
        (stepped (first_disp (block_of m one block k)) (first_disp (block_of m other block k)) (first_disp (segment m one block)) (first_disp (segment m other block)) moved.0 (pos k *ℤ step)
        (at (k * block) within) (start (omega (arith, within)))
        ((Decides-int_eq _ _).0 (each_below (λ j. int_eq (first_disp (block_of m one block j)) (first_disp (segment m one block) +ℤ (pos j *ℤ step))) count all k lt)))

both : (a b : Bool) → a ≡ true → b ≡ true → (a && b) ≡ true
both a b e f = ap (λ c. c && b) e ∙ f

stacks_like : (m : List Entry) (one other len block count : ℕ) → AreLike m one other len → count * block ≤ len → 0 < block → 0 < count → are_stacked m one block count ≡ true → are_stacked m other block count ≡ true
stacks_like m one other len block count like inside some many all =
    let parts = both_true (are_alike m one block count) (rise_by (natural_extent (segment m one block)) m one block count) all in
    let first = front_like m one other len block like (omega (arith, block_inside len block count 0 inside many)) in
    let step : natural_extent (segment m one block) ≡ natural_extent (segment m other block) = extent_of_alike (segment m one block) (segment m other block) first.same in
    both (are_alike m other block count) (rise_by (natural_extent (segment m other block)) m other block count) (blocks_like m one other len block count like inside parts.0)
    (subst (λ z. rise_by z m other block count ≡ true) step (rises_like m one other len block count (natural_extent (segment m one block)) like inside some parts.1))

-- the greatest value of a segment is at least that of each one alike
above : (m : List Entry) (low : Table) (one other len : ℕ) → AreLike m one other len → low one len ≤ greatest_alike m low other len
above m low one other len like =
    greatest_above (λ k. alike (segment m k len) (segment m other len)) (λ k. low k len) (length m + 1 - len) one (omega (arith, like.one_inside)) like.same

product_pos : (a b len : ℕ) → a * b ≡ len → 0 < len → (0 < a) × (0 < b)
product_pos zero b len e some = absurd (omega (arith, e))
product_pos (suc a) zero len e some = absurd (omega (arith, e))
product_pos (suc a) (suc b) len e some = (omega arith, omega arith)

-- so least runs and cuts cost no less over the greatest values
run_above : (m : List Entry) (low : Table) (one other len : ℕ) → 0 < len → AreLike m one other len → least_run m low one len ≤ least_run m (greatest_alike m low) other len
run_above m low one other len some like =
    let least = (least_run_is_least m (greatest_alike m low) other len some).1 in
    of least.0 least.1 least.2 least.3 least.4
  where
    of : (block count : ℕ) → count * block ≡ len → are_stacked m other block count ≡ true → least_run m (greatest_alike m low) other len ≡ greatest_alike m low other block
        → least_run m low one len ≤ least_run m (greatest_alike m low) other len
    of block count whole stand is =
        let positive = product_pos count block len whole some in
        let stands = stacks_like m other one len block count (back m one other len like) (omega (arith, whole)) positive.1 positive.0 stand in
        let within : block ≤ len = omega (arith, block_inside len block count 0 (omega (arith, whole)) positive.0) in
        omega (arith, is, least_run-le m low one len block count some whole stands, above m low one other block (front_like m one other len block like within))

cut_above : (w : Weights) (m : List Entry) (low : Table) (cut : List ℕ) (one other len : ℕ) → AreLike m one other len → All (λ n. 0 < n) cut → sum cut ≡ len
    → cut_cost w m low one cut ≤ cut_cost w m (greatest_alike m low) other cut
cut_above w m low [] one other len like positive whole = omega arith
cut_above w m low (k ∷ cut) one other len like positive whole =
    let all : k + sum cut ≡ len = sym (sum_by-cons (λ (x : ℕ). x) k cut) ∙ whole in
    let rest = part_like m one other len k (sum cut) like (omega (arith, all)) in
    omega (
      arith,
      run_above m low one other k (All-head (λ n. 0 < n) k cut positive) (front_like m one other len k like (omega (arith, all))),
      cut_above w m low cut (one + k) (other + k) (sum cut) rest (All-tail (λ n. 0 < n) k cut positive) refl,
    )

-- a segment that has the value of one at which the table holds
holds_like : (w : Weights) (m : List Entry) (low : Table) (one other len : ℕ) → 0 < len → AreLike m one other len → greatest_alike m low other len ≡ low one len → HoldsAt w m low one len
    → HoldsAt w m (greatest_alike m low) other len
holds_like w m low one other len some like is here = record {
  leaf = λ single. omega (arith, is, here.leaf single);
  cuts = λ cut positive whole. omega (arith, is, here.cuts cut positive whole, cut_above w m low cut one other len like positive whole);
  alike = λ block count whole stand.
      let positive = product_pos count block len whole some in
      let within : block ≤ len = omega (arith, block_inside len block count 0 (omega (arith, whole)) positive.0) in
      omega (
        arith,
        is,
        here.alike block count whole (blocks_like m other one len block count (back m one other len like) (omega (arith, whole)) stand),
        run_above m low one other block positive.1 (front_like m one other len block like within),
      );
  even = λ block count step whole stand rise.
      let positive = product_pos count block len whole some in
      let within : block ≤ len = omega (arith, block_inside len block count 0 (omega (arith, whole)) positive.0) in
      omega (
        arith,
        is,
        here.even block count step whole (blocks_like m other one len block count (back m one other len like) (omega (arith, whole)) stand)
            (rises_like m other one len block count step (back m one other len like) (omega (arith, whole)) positive.1 rise),
        run_above m low one other block positive.1 (front_like m one other len block like within),
      );
}

nothing_holds : (w : Weights) (m : List Entry) (low : Table) (start len : ℕ) → low start len ≡ 0 → HoldsAt w m low start len
nothing_holds w m low start len is = record {
  leaf = λ single. omega (arith, is);
  cuts = λ cut positive whole. omega (arith, is);
  alike = λ block count whole stand. omega (arith, is);
  even = λ block count step whole stand rise. omega (arith, is);
}

pub greatest_alike_is_valid : GreatestAlikeIsValid
greatest_alike_is_valid w m low valid = (valid_everywhere w m (greatest_alike m low)).1 (λ start len segment_is.
    elim (greatest_of (λ k. alike (segment m k len) (segment m start len)) (λ k. low k len) (length m + 1 - len)) [
      | inl none ↦ nothing_holds w m (greatest_alike m low) start len none
      | inr at ↦
          let inside : at.0 + len ≤ length m = omega (arith, at.1, segment_is.1) in
          holds_like w m low at.0 start len segment_is.0 (record { same = at.2; one_inside = inside; other_inside = segment_is.1 }) at.3
          ((valid_everywhere w m low).0 valid at.0 len (segment_is.0, inside))
    ])

pub greatest_is_of_classes : GreatestIsOfClasses
greatest_is_of_classes w m table one other len greatest one_is other_is same =
    let like : AreLike m one other len = record { same = same; one_inside = one_is.1; other_inside = other_is.1 } in
    let valid = greatest_alike_is_valid w m table greatest.valid in
    omega (
      arith,
      above m table one other len like,
      above m table other one len (back m one other len like),
      greatest.greatest (greatest_alike m table) valid one len one_is,
      greatest.greatest (greatest_alike m table) valid other len other_is,
    )
