-- blocks that begin with a segment, from those that begin with the next block
use Rattle.std.proofs.Common.{◌≡◌, ℕ, zero, suc, ◌+◌, ◌*◌, ◌≤◌, ◌<◌, ℤ, pos, ◌+ℤ◌, ◌-ℤ◌, ◌*ℤ◌, Bool, true, ◌&&◌, List, [], ◌∷◌, length, refl, sym, ap, subst, ◌∙◌, arith, inl, inr}
use Rattle.std.proofs.lemmas.Bool.{cases_lt}
use Rattle.std.proofs.lemmas.Bool.Decides.{Decides-int_eq}
use Rattle.std.proofs.Math.IntN.{suc_ℤ-*ℤ}
use Rattle.std.proofs.Math.Nat.{mul-le-mul_right}
use Rattle.std.proofs.lemmas.Int.{ints}
use Rattle.std.proofs.lemmas.List.Folds.{list_all-append}
use Rattle.std.specs.List.{list_all}
use Rattle.std.specs.Ordering.{int_eq}
use Rattle.dt_offsets.specs.Offsets.{below}
use Rattle.dt_map.specs.declared.entry.Entry.{Entry}
use Rattle.dt_map.specs.Alike.{segment, block_of, first_disp, alike, are_alike, rise_by}
use Rattle.dt_map.specs.Runs.{natural_extent}
use Rattle.dt_map.proofs.Likeness.{both_true, extent_of_alike}
use Rattle.dt_map.proofs.Seats.{list_all-below}
use Rattle.dt_alike.specs.Blocks.{AreAlike, AreEven, AreStacked, IsRun}
use Rattle.dt_alike.specs.Likeness.{AreBlocks}
use Rattle.dt_alike.specs.Reach.{IsReach}
use Rattle.dt_alike.specs.Step.{entry_at, step_between, IsOneStep}
use Rattle.dt_alike.proofs.Reaching.{disp_at}
use Rattle.dt_alike.proofs.Segments.{alike_front, alike_self, alike_sym, alike_trans}

-- a test that each number below n passes
each_below : (p : ℕ → Bool) (n : ℕ) → list_all p (below n) ≡ true → (k : ℕ) → k < n → p k ≡ true
each_below p zero all k lt = absurd (omega arith)
each_below p (suc n) all k lt =
    let parts = both_true (list_all p (below n)) (p n && true) (sym (list_all-append p (below n) (n ∷ [])) ∙ all) in
    elim (cases_lt k n) [
      | inl less ↦ each_below p n parts.0 k less
      | inr last ↦ let same : k ≡ n = omega arith in rw same (both_true (p n) true parts.1).0
    ]

-- blocks that are alike, one by one
pub record AlikeTo (m : List Entry) (start len count : ℕ) : Type 0 where
  pub each : (k : ℕ) → k < count → alike (block_of m start len k) (segment m start len) ≡ true

one_by_one : (m : List Entry) (start len count : ℕ) → AreAlike m start len count → AlikeTo m start len count
one_by_one m start len count all = record { each = each_below (λ k. alike (block_of m start len k) (segment m start len)) count all }

together : (m : List Entry) (start len count : ℕ) → AlikeTo m start len count → AreAlike m start len count
together m start len count are = list_all-below (λ k. alike (block_of m start len k) (segment m start len)) count are.each

-- first displacements that rise, one by one
pub record RisesTo (step : ℤ) (m : List Entry) (start len count : ℕ) : Type 0 where
  pub each : (k : ℕ) → k < count → first_disp (block_of m start len k) ≡ first_disp (segment m start len) +ℤ (pos k *ℤ step)

rises_each : (step : ℤ) (m : List Entry) (start len count : ℕ) → rise_by step m start len count ≡ true → RisesTo step m start len count
rises_each step m start len count all = record {
  each = λ k lt. (Decides-int_eq _ _).0 (each_below (λ k. int_eq (first_disp (block_of m start len k)) (first_disp (segment m start len) +ℤ (pos k *ℤ step))) count all k lt);
}

rises_all : (step : ℤ) (m : List Entry) (start len count : ℕ) → RisesTo step m start len count → rise_by step m start len count ≡ true
rises_all step m start len count are =
    list_all-below (λ k. int_eq (first_disp (block_of m start len k)) (first_disp (segment m start len) +ℤ (pos k *ℤ step))) count
    (λ k lt. (Decides-int_eq _ _).1 (are.each k lt))

-- the first block is the segment, and the next ones are those of the next block
first_block : (m : List Entry) (start len : ℕ) → block_of m start len 0 ≡ segment m start len
first_block m start len = ap (λ i. segment m i len) (omega arith)

second_block : (m : List Entry) (start len : ℕ) → block_of m start len 1 ≡ segment m (start + len) len
second_block m start len = ap (λ i. segment m i len) (omega arith)

next_block : (m : List Entry) (start len k : ℕ) → block_of m start len (suc k) ≡ block_of m (start + len) len k
next_block m start len k = ap (λ i. segment m i len) (next start len k)
  where
    next : (start len k : ℕ) → start + suc k * len ≡ start + len + k * len
    next start len k = omega arith

-- blocks that are alike
none_alike : (m : List Entry) (start len : ℕ) → AreAlike m start len 0
none_alike m start len = refl

one_alike : (m : List Entry) (start len : ℕ) → AreAlike m start len 1
one_alike m start len = together m start len 1 (record {
  each = λ k lt.
      let none : k ≡ 0 = omega arith in
      rw (none, first_block m start len) (alike_self (segment m start len));
})

alike_more : (m : List Entry) (start len count : ℕ) → alike (segment m (start + len) len) (segment m start len) ≡ true → AreAlike m (start + len) len count
    → AreAlike m start len (suc count)
alike_more m start len count same all =
    let next = one_by_one m (start + len) len count all in
    together m start len (suc count) (record { each = each next })
  where
    each : AlikeTo m (start + len) len count → (k : ℕ) → k < suc count → alike (block_of m start len k) (segment m start len) ≡ true
    each next zero lt = rw (first_block m start len) (alike_self (segment m start len))
    each next (suc k) lt =
        rw (next_block m start len k)
        (alike_trans (block_of m (start + len) len k) (segment m (start + len) len) (segment m start len) (next.each k (omega arith)) same)

second_alike : (m : List Entry) (start len count : ℕ) → AreAlike m start len (suc (suc count)) → alike (segment m (start + len) len) (segment m start len) ≡ true
second_alike m start len count all = rw (second_block m start len) at ((one_by_one m start len (suc (suc count)) all).each 1 (omega arith))

alike_fewer : (m : List Entry) (start len count : ℕ) → AreAlike m start len (suc (suc count)) → AreAlike m (start + len) len (suc count)
alike_fewer m start len count all =
    let same = second_alike m start len count all in
    let blocks = one_by_one m start len (suc (suc count)) all in
    together m (start + len) len (suc count) (record {
      each = λ k lt.
          let at : alike (block_of m (start + len) len k) (segment m start len) ≡ true = rw (next_block m start len k) at (blocks.each (suc k) (omega arith)) in
          alike_trans (block_of m (start + len) len k) (segment m start len) (segment m (start + len) len) at (alike_sym (segment m (start + len) len) (segment m start len) same);
    })

-- runs of blocks
times_one : (n : ℕ) → 1 * n ≡ n
times_one n = omega arith

-- one block alone
alone : (Holds : ℕ → Type 0) (m : List Entry) (start len : ℕ) → Holds 0 → Holds 1 → start + len ≤ length m
    → ((count : ℕ) → start + suc (suc count) * len ≤ length m → Holds (suc (suc count)) → ⊥) → IsRun Holds m start len 1
alone Holds m start len none one inside stop = record {
  some = omega arith;
  inside = omega (arith, times_one len);
  holds = fewer;
  stops = least;
}
  where
    fewer : (count : ℕ) → count ≤ 1 → Holds count
    fewer zero le = none
    fewer (suc zero) le = one
    fewer (suc (suc count)) le = absurd (omega arith)

    least : (count : ℕ) → start + count * len ≤ length m → Holds count → count ≤ 1
    least zero in_list holds = omega arith
    least (suc zero) in_list holds = omega arith
    least (suc (suc count)) in_list holds = absurd (stop count in_list holds)

-- two blocks, where a third one never is
pair_of : (Holds : ℕ → Type 0) (m : List Entry) (start len : ℕ) → Holds 0 → Holds 1 → Holds 2 → start + 2 * len ≤ length m
    → ((count : ℕ) → start + suc (suc (suc count)) * len ≤ length m → Holds (suc (suc (suc count))) → ⊥) → IsRun Holds m start len 2
pair_of Holds m start len none one two inside stop = record {
  some = omega arith;
  inside = inside;
  holds = fewer;
  stops = least;
}
  where
    fewer : (count : ℕ) → count ≤ 2 → Holds count
    fewer zero le = none
    fewer (suc zero) le = one
    fewer (suc (suc zero)) le = two
    fewer (suc (suc (suc count))) le = absurd (omega arith)

    least : (count : ℕ) → start + count * len ≤ length m → Holds count → count ≤ 2
    least zero in_list holds = omega arith
    least (suc zero) in_list holds = omega arith
    least (suc (suc zero)) in_list holds = omega arith
    least (suc (suc (suc count))) in_list holds = absurd (stop count in_list holds)

-- one more than from the next block on
one_more : (Holds Next : ℕ → Type 0) (m : List Entry) (start len run : ℕ) → Holds 0 → Holds 1
    → ((count : ℕ) → count < run → Next (suc count) → Holds (suc (suc count))) → ((count : ℕ) → Holds (suc (suc count)) → Next (suc count))
    → IsRun Next m (start + len) len run → IsRun Holds m start len (run + 1)
one_more Holds Next m start len run none one more fewer next = record {
  some = omega arith;
  inside = let e : start + (run + 1) * len ≡ start + len + run * len = omega arith in rw e next.inside;
  holds = all;
  stops = least;
}
  where
    all : (count : ℕ) → count ≤ run + 1 → Holds count
    all zero le = none
    all (suc zero) le = one
    all (suc (suc count)) le = more count (omega arith) (next.holds (suc count) (omega arith))

    least : (count : ℕ) → start + count * len ≤ length m → Holds count → count ≤ run + 1
    least zero in_list holds = omega arith
    least (suc zero) in_list holds = omega arith
    least (suc (suc count)) in_list holds =
        let e : start + suc (suc count) * len ≡ start + len + suc count * len = omega arith in
        let le = next.stops (suc count) (rw e at in_list) (fewer count holds) in
        omega arith

-- alike
pub alike_run : (m : List Entry) (start len run : ℕ) → alike (segment m (start + len) len) (segment m start len) ≡ true
    → IsRun (AreAlike m (start + len) len) m (start + len) len run → IsRun (AreAlike m start len) m start len (run + 1)
alike_run m start len run same next =
    one_more (AreAlike m start len) (AreAlike m (start + len) len) m start len run (none_alike m start len) (one_alike m start len)
    (λ count lt all. alike_more m start len (suc count) same all) (λ count all. alike_fewer m start len count all) next

-- the blocks rise by a step from the first on where they do from the next on and that is a step further on
one_further : (k : ℕ) (step : ℤ) → pos (suc k) *ℤ step ≡ step +ℤ (pos k *ℤ step)
one_further k step = suc_ℤ-*ℤ (pos k) step ∙ turned (pos k *ℤ step) step
  where
    turned : (a b : ℤ) → a +ℤ b ≡ b +ℤ a
    turned a b = omega (arith, ints)

rises_more : (step : ℤ) (m : List Entry) (start len count : ℕ) → first_disp (segment m (start + len) len) ≡ first_disp (segment m start len) +ℤ step
    → RisesTo step m (start + len) len count → RisesTo step m start len (suc count)
rises_more step m start len count apart next = record { each = each }
  where
    at : (d e z : ℤ) → e ≡ d +ℤ step → e +ℤ z ≡ d +ℤ (step +ℤ z)
    at d e z is = omega (arith, ints)

    none : (d : ℤ) → d ≡ d +ℤ (pos 0 *ℤ step)
    none d = omega (arith, ints)

    each : (k : ℕ) → k < suc count → first_disp (block_of m start len k) ≡ first_disp (segment m start len) +ℤ (pos k *ℤ step)
    each zero lt = ap first_disp (first_block m start len) ∙ none (first_disp (segment m start len))
    each (suc k) lt =
        ap first_disp (next_block m start len k) ∙ next.each k (omega arith)
        ∙ at (first_disp (segment m start len)) (first_disp (segment m (start + len) len)) (pos k *ℤ step) apart
        ∙ ap (λ z. first_disp (segment m start len) +ℤ z) (sym (one_further k step))

rises_second : (step : ℤ) (m : List Entry) (start len count : ℕ) → RisesTo step m start len (suc (suc count))
    → first_disp (segment m (start + len) len) ≡ first_disp (segment m start len) +ℤ step
rises_second step m start len count rises =
    let here = ap first_disp (second_block m start len) in
    let there = rises.each 1 (omega arith) in
    omega (arith, ints, here, there)

rises_fewer : (step : ℤ) (m : List Entry) (start len count : ℕ) → RisesTo step m start len (suc (suc count)) → RisesTo step m (start + len) len (suc count)
rises_fewer step m start len count rises = record {
  each = λ k lt.
      at (first_disp (segment m start len)) (first_disp (segment m (start + len) len)) (pos k *ℤ step) (first_disp (block_of m (start + len) len k))
      (sym (ap first_disp (next_block m start len k)) ∙ rises.each (suc k) (omega arith) ∙ ap (λ z. first_disp (segment m start len) +ℤ z) (one_further k step))
      (rises_second step m start len count rises);
}
  where
    at : (d e z x : ℤ) → x ≡ d +ℤ (step +ℤ z) → e ≡ d +ℤ step → x ≡ e +ℤ z
    at d e z x is further = omega (arith, ints)

rises_one : (step : ℤ) (m : List Entry) (start len : ℕ) → RisesTo step m start len 1
rises_one step m start len = record {
  each = λ k lt.
      let none : k ≡ 0 = omega arith in
      rw none (ap first_disp (first_block m start len) ∙ plain (first_disp (segment m start len)));
}
  where
    plain : (d : ℤ) → d ≡ d +ℤ (pos 0 *ℤ step)
    plain d = omega (arith, ints)

-- even
even_none : (m : List Entry) (start len : ℕ) → AreEven m start len 0
even_none m start len = (none_alike m start len, (pos 0, refl))

even_one : (m : List Entry) (start len : ℕ) → AreEven m start len 1
even_one m start len = (one_alike m start len, (pos 0, rises_all (pos 0) m start len 1 (rises_one (pos 0) m start len)))

even_two : (m : List Entry) (start len : ℕ) → alike (segment m (start + len) len) (segment m start len) ≡ true → AreEven m start len 2
even_two m start len same =
    let step : ℤ = first_disp (segment m (start + len) len) -ℤ first_disp (segment m start len) in
    let apart : first_disp (segment m (start + len) len) ≡ first_disp (segment m start len) +ℤ step = omega (arith, ints) in (
      alike_more m start len 1 same (one_alike m (start + len) len),
      (step, rises_all step m start len 2 (rises_more step m start len 1 apart (rises_one step m (start + len) len))),
    )

even_fewer : (m : List Entry) (start len count : ℕ) → AreEven m start len (suc (suc count)) → AreEven m (start + len) len (suc count)
even_fewer m start len count even =
    let step : ℤ = even.1.0 in (
      alike_fewer m start len count even.0,
      (step, rises_all step m (start + len) len (suc count) (rises_fewer step m start len count (rises_each step m start len (suc (suc count)) even.1.1))),
    )

-- the first steps of even blocks are one step
OneStep : List Entry → ℕ → ℕ → Type 0
OneStep m start len =
    first_disp (segment m (start + len) len) -ℤ first_disp (segment m start len)
    ≡ first_disp (segment m (start + len + len) len) -ℤ first_disp (segment m (start + len) len)

even_steps : (m : List Entry) (start len count : ℕ) → AreEven m start len (suc (suc (suc count))) → OneStep m start len
unfolding OneStep
even_steps m start len count even =
    let step : ℤ = even.1.0 in
    let rises = rises_each step m start len (suc (suc (suc count))) even.1.1 in
    let one = rises_second step m start len (suc count) rises in
    let two = rises_second step m (start + len) len count (rises_fewer step m start len (suc count) rises) in
    omega (arith, ints, one, two)

even_more : (m : List Entry) (start len count : ℕ) → alike (segment m (start + len) len) (segment m start len) ≡ true → OneStep m start len
    → AreEven m (start + len) len (suc (suc count)) → AreEven m start len (suc (suc (suc count)))
unfolding OneStep
even_more m start len count same steps even =
    let step : ℤ = even.1.0 in
    let rises = rises_each step m (start + len) len (suc (suc count)) even.1.1 in
    let two = rises_second step m (start + len) len count rises in
    let one : first_disp (segment m (start + len) len) ≡ first_disp (segment m start len) +ℤ step = omega (arith, ints, two, steps) in
    (alike_more m start len (suc (suc count)) same even.0, (step, rises_all step m start len (suc (suc (suc count))) (rises_more step m start len (suc (suc count)) one rises)))

even_from : (m : List Entry) (start len count : ℕ) → alike (segment m (start + len) len) (segment m start len) ≡ true → OneStep m start len
    → AreEven m (start + len) len (suc count) → AreEven m start len (suc (suc count))
even_from m start len zero same steps even = even_two m start len same
even_from m start len (suc count) same steps even = even_more m start len count same steps even

disp_of : (m : List Entry) (i len : ℕ) → 1 ≤ len → i < length m → first_disp (segment m i len) ≡ (entry_at m i).disp
disp_of m i zero some inside = absurd (omega arith)
disp_of m i (suc r) some inside = disp_at m i r (entry_at [] 0) inside

one_step_is : (m : List Entry) (start len : ℕ) → 1 ≤ len → start + len + len < length m
    → (IsOneStep m (start, start + len) (start + len, start + len + len) → OneStep m start len) × (OneStep m start len → IsOneStep m (start, start + len) (start + len, start + len + len))
unfolding OneStep
one_step_is m start len some inside =
    let zero_at = disp_of m start len some (omega arith) in
    let one_at = disp_of m (start + len) len some (omega arith) in
    let two_at = disp_of m (start + len + len) len some inside in
    (λ step. omega (arith, ints, zero_at, one_at, two_at, step), λ step. omega (arith, ints, zero_at, one_at, two_at, step))

pub even_run : (m : List Entry) (start len next : ℕ) → 1 ≤ len → start + len + len < length m → alike (segment m (start + len) len) (segment m start len) ≡ true
    → IsOneStep m (start, start + len) (start + len, start + len + len) → IsRun (AreEven m (start + len) len) m (start + len) len next
    → IsRun (AreEven m start len) m start len (next + 1)
even_run m start len next some inside same step run =
    one_more (AreEven m start len) (AreEven m (start + len) len) m start len next (even_none m start len) (even_one m start len)
    (λ count lt even. even_from m start len count same ((one_step_is m start len some inside).0 step) even)
    (λ count even. even_fewer m start len count even) run

pub even_pair : (m : List Entry) (start len : ℕ) → start + 2 * len ≤ length m → alike (segment m (start + len) len) (segment m start len) ≡ true
    → ((count : ℕ) → start + suc (suc (suc count)) * len ≤ length m → AreEven m start len (suc (suc (suc count))) → ⊥) → IsRun (AreEven m start len) m start len 2
even_pair m start len inside same stop = pair_of (AreEven m start len) m start len (even_none m start len) (even_one m start len) (even_two m start len same) inside stop

-- of less than two blocks from the next one on
pub even_short : (m : List Entry) (start len next : ℕ) → start + 2 * len ≤ length m → alike (segment m (start + len) len) (segment m start len) ≡ true → next < 2
    → IsRun (AreEven m (start + len) len) m (start + len) len next → IsRun (AreEven m start len) m start len 2
even_short m start len next inside same less run =
    even_pair m start len inside same (λ count in_list even. short count (run.stops (suc (suc count)) (room start len count in_list) (even_fewer m start len (suc count) even)))
  where
    room : (start len count : ℕ) → start + suc (suc (suc count)) * len ≤ length m → start + len + suc (suc count) * len ≤ length m
    room start len count in_list = omega arith

    short : (count : ℕ) → suc (suc count) ≤ next → ⊥
    short count le = omega arith

pub third_inside : (m : List Entry) (start len next : ℕ) → 1 ≤ len → 2 ≤ next → start + len + next * len ≤ length m → start + len + len < length m
third_inside m start len next some two inside =
    let least : 2 * len ≤ next * len = mul-le-mul_right len two in
    omega arith

-- a segment's next block is alike where it reaches as far, and else isn't
pub reached : (m : List Entry) (start other reach len : ℕ) → IsReach m start other reach → len ≤ reach → alike (segment m other len) (segment m start len) ≡ true
reached m start other reach len is le =
    alike_sym (segment m start len) (segment m other len) (alike_front m start other len reach le is.same)

pub not_reached : (m : List Entry) (start other reach len : ℕ) → IsReach m start other reach → reach < len → start + len ≤ length m → other + len ≤ length m
    → alike (segment m other len) (segment m start len) ≡ true → ⊥
not_reached m start other reach len is less inside other_inside same =
    is.stops (omega arith) (omega arith) (alike_front m start other (suc reach) len (omega arith) (alike_sym (segment m other len) (segment m start len) same))

-- where the step changes
pub even_changed : (m : List Entry) (start len : ℕ) → 1 ≤ len → start + 2 * len ≤ length m → start + len + len < length m
    → alike (segment m (start + len) len) (segment m start len) ≡ true → (IsOneStep m (start, start + len) (start + len, start + len + len) → ⊥)
    → IsRun (AreEven m start len) m start len 2
even_changed m start len some inside third same changed =
    even_pair m start len inside same (λ count in_list even. changed ((one_step_is m start len some third).1 (even_steps m start len count even)))

-- stacked
both : {a b : Bool} → a ≡ true → b ≡ true → (a && b) ≡ true
both one two = cc

stacked_parts : (m : List Entry) (start len count : ℕ) → AreStacked m start len count
    → AreAlike m start len count × RisesTo (natural_extent (segment m start len)) m start len count
stacked_parts m start len count stacked =
    let parts = both_true (are_alike m start len count) (rise_by (natural_extent (segment m start len)) m start len count) stacked in
    (parts.0, rises_each (natural_extent (segment m start len)) m start len count parts.1)

stacked_of : (m : List Entry) (start len count : ℕ) → AreAlike m start len count → RisesTo (natural_extent (segment m start len)) m start len count
    → AreStacked m start len count
stacked_of m start len count all rises = both all (rises_all (natural_extent (segment m start len)) m start len count rises)

stacked_none : (m : List Entry) (start len : ℕ) → AreStacked m start len 0
stacked_none m start len = refl

stacked_one : (m : List Entry) (start len : ℕ) → AreStacked m start len 1
stacked_one m start len = stacked_of m start len 1 (one_alike m start len) (rises_one (natural_extent (segment m start len)) m start len)

stacked_more : (m : List Entry) (start len count : ℕ) → alike (segment m (start + len) len) (segment m start len) ≡ true
    → first_disp (segment m (start + len) len) ≡ first_disp (segment m start len) +ℤ natural_extent (segment m start len)
    → AreStacked m (start + len) len count → AreStacked m start len (suc count)
stacked_more m start len count same apart stacked =
    let parts = stacked_parts m (start + len) len count stacked in
    let extent = extent_of_alike (segment m (start + len) len) (segment m start len) same in
    stacked_of m start len (suc count) (alike_more m start len count same parts.0)
    (rises_more (natural_extent (segment m start len)) m start len count apart (subst (λ z. RisesTo z m (start + len) len count) extent parts.1))

stacked_fewer : (m : List Entry) (start len count : ℕ) → AreStacked m start len (suc (suc count)) → AreStacked m (start + len) len (suc count)
stacked_fewer m start len count stacked =
    let parts = stacked_parts m start len (suc (suc count)) stacked in
    let same = second_alike m start len count parts.0 in
    let extent = extent_of_alike (segment m (start + len) len) (segment m start len) same in
    stacked_of m (start + len) len (suc count) (alike_fewer m start len count parts.0)
    (subst (λ z. RisesTo z m (start + len) len (suc count)) (sym extent) (rises_fewer (natural_extent (segment m start len)) m start len count parts.1))

stacked_second : (m : List Entry) (start len count : ℕ) → AreStacked m start len (suc (suc count))
    → first_disp (segment m (start + len) len) ≡ first_disp (segment m start len) +ℤ natural_extent (segment m start len)
stacked_second m start len count stacked =
    rises_second (natural_extent (segment m start len)) m start len count (stacked_parts m start len (suc (suc count)) stacked).1

pub stacked_run : (m : List Entry) (start len natural next : ℕ) → 1 ≤ len → start + 2 * len ≤ length m → alike (segment m (start + len) len) (segment m start len) ≡ true
    → pos natural ≡ natural_extent (segment m start len) → step_between m start (start + len) ≡ pos natural
    → IsRun (AreStacked m (start + len) len) m (start + len) len next → IsRun (AreStacked m start len) m start len (next + 1)
stacked_run m start len natural next some inside same is step run =
    let zero_at = disp_of m start len some (omega arith) in
    let one_at = disp_of m (start + len) len some (omega arith) in
    let apart : first_disp (segment m (start + len) len) ≡ first_disp (segment m start len) +ℤ natural_extent (segment m start len) = omega (arith, ints, zero_at, one_at, is, step) in
    one_more (AreStacked m start len) (AreStacked m (start + len) len) m start len next (stacked_none m start len) (stacked_one m start len)
    (λ count lt stacked. stacked_more m start len (suc count) same apart stacked) (λ count stacked. stacked_fewer m start len count stacked) run

pub stacked_alone : (m : List Entry) (start len natural : ℕ) → 1 ≤ len → start + 2 * len ≤ length m → pos natural ≡ natural_extent (segment m start len)
    → (step_between m start (start + len) ≡ pos natural → ⊥) → IsRun (AreStacked m start len) m start len 1
stacked_alone m start len natural some inside is differ =
    let zero_at = disp_of m start len some (omega arith) in
    let one_at = disp_of m (start + len) len some (omega arith) in
    alone (AreStacked m start len) m start len (stacked_none m start len) (stacked_one m start len) (omega arith)
    (λ count in_list stacked.
    let apart = stacked_second m start len count stacked in
    let step : step_between m start (start + len) ≡ pos natural = omega (arith, ints, zero_at, one_at, is, apart) in
    differ step)

-- a segment whose next block isn't inside or isn't alike
pub alone_blocks : (m : List Entry) (start len : ℕ) → start + len ≤ length m
    → (start + 2 * len ≤ length m → alike (segment m (start + len) len) (segment m start len) ≡ true → ⊥)
    → AreBlocks m start len (record { alike = 1; even = 1; stacked = 1 })
alone_blocks m start len inside stop = record {
  alike = alone (AreAlike m start len) m start len (none_alike m start len) (one_alike m start len) inside
      (λ count in_list all. stop (room start len count in_list) (second_alike m start len count all));
  even = alone (AreEven m start len) m start len (even_none m start len) (even_one m start len) inside
      (λ count in_list even. stop (room start len count in_list) (second_alike m start len count even.0));
  stacked = alone (AreStacked m start len) m start len (stacked_none m start len) (stacked_one m start len) inside
      (λ count in_list stacked. stop (room start len count in_list) (second_alike m start len count (stacked_parts m start len (suc (suc count)) stacked).0));
}
  where
    room : (start len count : ℕ) → start + suc (suc count) * len ≤ length m → start + 2 * len ≤ length m
    room start len count in_list = omega arith
