-- how far segments are alike, from what is known of the next entries
use Rattle.std.proofs.Common.{◌≡◌, ℕ, zero, suc, ◌+◌, ◌≤◌, ◌<◌, ◌+ℤ◌, ◌-ℤ◌, List, [], ◌∷◌, length, get_or, refl, ap, ◌∙◌, true, arith, inl, inr, set, below_more, get_or-set_other, get_or-set_same}
use Rattle.std.proofs.lemmas.Bool.{cases_lt}
use Rattle.std.proofs.lemmas.Int.{ints}
use Rattle.std.proofs.lemmas.List.{get_or_past, length-set}
use Rattle.dt_map.specs.declared.entry.Entry.{Entry}
use Rattle.dt_map.specs.Alike.{segment, alike, first_disp}
use Rattle.dt_map.specs.Typemap.{shift}
use Rattle.dt_map.proofs.Stacks.{alike_by}
use Rattle.dt_alike.specs.Reach.{AreReaches, IsReach}
use Rattle.dt_alike.specs.Step.{entry_at, step_between, IsOneStep}
use Rattle.dt_alike.proofs.Segments.{segment-suc, head_alike, joined_alike, tail_alike}

-- segments that are one entry longer, as their first entries and the rest
longer : (m : List Entry) (i k r : ℕ) (d : Entry) → i < length m → k < length m
    → alike (segment m i (suc r)) (segment m k (suc r)) ≡ true
    → alike (get_or m i d ∷ segment m (suc i) r) (get_or m k d ∷ segment m (suc k) r) ≡ true
longer m i k r d one other same = rw (segment-suc m i r d one, segment-suc m k r d other) at same

shorter : (m : List Entry) (i k r : ℕ) (d : Entry) → i < length m → k < length m
    → alike (get_or m i d ∷ segment m (suc i) r) (get_or m k d ∷ segment m (suc k) r) ≡ true
    → alike (segment m i (suc r)) (segment m k (suc r)) ≡ true
shorter m i k r d one other same = rw (segment-suc m i r d one, segment-suc m k r d other) same

pub reach_none : (m : List Entry) (i k : ℕ) (d : Entry) → i < length m → k < length m → ((get_or m i d).kind ≡ (get_or m k d).kind → ⊥) → IsReach m i k 0
reach_none m i k d one other differ = record {
  inside = omega arith;
  other_inside = omega arith;
  same = refl;
  stops = λ more other_more same. differ (head_alike (get_or m i d) (get_or m k d) [] [] (longer m i k 0 d one other same)).kind;
}

pub disp_at : (m : List Entry) (i r : ℕ) (d : Entry) → i < length m → first_disp (segment m i (suc r)) ≡ (get_or m i d).disp
disp_at m i r d inside = ap first_disp (segment-suc m i r d inside)

-- one step apart, in alike segments
steps_in : (m : List Entry) (i k r : ℕ) (d : Entry) → suc i < length m → suc k < length m
    → alike (get_or m i d ∷ segment m (suc i) (suc r)) (get_or m k d ∷ segment m (suc k) (suc r)) ≡ true
    → (get_or m (suc i) d).disp -ℤ (get_or m i d).disp ≡ (get_or m (suc k) d).disp -ℤ (get_or m k d).disp
steps_in m i k r d one other same =
    let tail = ap first_disp (head_alike (get_or m i d) (get_or m k d) (segment m (suc i) (suc r)) (segment m (suc k) (suc r)) same).tail in
    let placed = ap (λ es. first_disp (shift ((get_or m i d).disp -ℤ (get_or m k d).disp) es)) (segment-suc m (suc k) r d other) in
    let here = disp_at m (suc i) r d one in
    omega (arith, ints, tail, placed, here)

reach_one_of : (m : List Entry) (i k : ℕ) (d : Entry) → i < length m → k < length m → (get_or m i d).kind ≡ (get_or m k d).kind
    → (suc i < length m → suc k < length m → alike (segment m (suc i) 1) (segment m (suc k) 1) ≡ true
    → (get_or m (suc i) d).disp -ℤ (get_or m i d).disp ≡ (get_or m (suc k) d).disp -ℤ (get_or m k d).disp → ⊥)
    → IsReach m i k 1
reach_one_of m i k d one other kind stop = record {
  inside = omega arith;
  other_inside = omega arith;
  same = shorter m i k 0 d one other (joined_alike (get_or m i d) (get_or m k d) [] [] kind refl);
  stops = λ more other_more same.
      let heads = longer m i k 1 d one other same in
      let next : suc i < length m = omega arith in
      let other_next : suc k < length m = omega arith in
      stop next other_next (tail_alike (get_or m i d) (get_or m k d) (segment m (suc i) 1) (segment m (suc k) 1) heads) (steps_in m i k 0 d next other_next heads);
}

reach_more_of : (m : List Entry) (i k next : ℕ) (d : Entry) → i < length m → k < length m → (get_or m i d).kind ≡ (get_or m k d).kind
    → IsReach m (suc i) (suc k) (suc next)
    → (get_or m (suc i) d).disp -ℤ (get_or m i d).disp ≡ (get_or m (suc k) d).disp -ℤ (get_or m k d).disp → IsReach m i k (suc (suc next))
reach_more_of m i k next d one other kind reach step =
    let es : List Entry = segment m (suc i) (suc next) in
    let fs : List Entry = segment m (suc k) (suc next) in
    let here = disp_at m (suc i) next d (omega (arith, reach.inside)) in
    let there = disp_at m (suc k) next d (omega (arith, reach.other_inside)) in
    let moved : first_disp (segment m (suc i) (suc next)) ≡ first_disp (segment m (suc k) (suc next)) +ℤ ((get_or m i d).disp -ℤ (get_or m k d).disp) =
    omega (arith, ints) in
    record {
      inside = omega (arith, reach.inside);
      other_inside = omega (arith, reach.other_inside);
      same = shorter m i k (suc next) d one other (joined_alike (get_or m i d) (get_or m k d) es fs kind (alike_by ((get_or m i d).disp -ℤ (get_or m k d).disp) es fs reach.same moved));
      stops = λ more other_more same. reach.stops (omega arith) (omega arith) (tail_alike (get_or m i d) (get_or m k d) (segment m (suc i) (suc (suc next))) (segment m (suc k) (suc (suc next))) (longer m i k (suc (suc next)) d one other same));
    }

-- the same as the code writes numbers
pub reach_end : (m : List Entry) (i k next : ℕ) → i < length m → k < length m → (entry_at m i).kind ≡ (entry_at m k).kind → IsReach m (i + 1) (k + 1) next → next ≡ 0 → IsReach m i k 1
reach_end m i k next one other kind reach none =
    let here : i + 1 ≡ suc i = omega arith in
    let there : k + 1 ≡ suc k = omega arith in
    let at : IsReach m (suc i) (suc k) 0 = rw (here, there, none) at reach in
    reach_one_of m i k (entry_at [] 0) one other kind (λ more other_more same step. at.stops (omega arith) (omega arith) same)

pub reach_one : (m : List Entry) (i k : ℕ) → i < length m → k < length m → (entry_at m i).kind ≡ (entry_at m k).kind
    → (IsOneStep m (i, i + 1) (k, k + 1) → ⊥) → IsReach m i k 1
reach_one m i k one other kind differ =
    let here : i + 1 ≡ suc i = omega arith in
    let there : k + 1 ≡ suc k = omega arith in
    let stop : step_between m i (suc i) ≡ step_between m k (suc k) → ⊥ = rw (here, there) at differ in
    reach_one_of m i k (entry_at [] 0) one other kind (λ more other_more same step. stop step)

pub reach_more : (m : List Entry) (i k next : ℕ) → i < length m → k < length m → (entry_at m i).kind ≡ (entry_at m k).kind
    → IsReach m (i + 1) (k + 1) next → (next ≡ 0 → ⊥) → IsOneStep m (i, i + 1) (k, k + 1) → IsReach m i k (next + 1)
reach_more m i k zero one other kind reach some step = absurd (some refl)
reach_more m i k (suc next) one other kind reach some step =
    let here : i + 1 ≡ suc i = omega arith in
    let there : k + 1 ≡ suc k = omega arith in
    let whole : suc next + 1 ≡ suc (suc next) = omega arith in
    let at : IsReach m (suc i) (suc k) (suc next) = rw (here, there) at reach in
    let even : step_between m i (suc i) ≡ step_between m k (suc k) = rw (here, there) at step in
    rw whole (reach_more_of m i k next (entry_at [] 0) one other kind at even)

-- the reaches of one place with those before a place, and of the next one with the rest
pub record Passed (m : List Entry) (one other : ℕ) (before now : List ℕ) : Type 0 where
  pub each : length now ≡ length m
  pub done : (k : ℕ) → k < other → IsReach m one k (get_or now k 0)
  pub rest : (k : ℕ) → other ≤ k → get_or now k 0 ≡ get_or before k 0

pub none_passed : (m : List Entry) (one : ℕ) (reaches : List ℕ) → AreReaches m (one + 1) reaches → Passed m one 0 reaches reaches
none_passed m one reaches are = record { each = are.each; done = λ k lt. absurd (omega arith); rest = λ k le. refl }

pub next_passed : (m : List Entry) (one other : ℕ) (before now : List ℕ) → one < length m → AreReaches m (one + 1) before → Passed m one other before now
    → other < length m → IsReach m (one + 1) (other + 1) (get_or now (other + 1) 0)
next_passed m one other before now inside are passed lt = elim (cases_lt (other + 1) (length m)) [
  | inl more ↦ rw (passed.rest (other + 1) (omega arith)) (are.reach (other + 1) more)
  | inr end ↦
      let none : get_or now (other + 1) 0 ≡ 0 = get_or_past now (other + 1) 0 (omega (arith, passed.each)) in
      rw none (record { inside = omega arith; other_inside = omega arith; same = refl; stops = λ more other_more same. absurd (omega arith) })
]

pub one_passed : (m : List Entry) (one other reach : ℕ) (before now : List ℕ) → Passed m one other before now → other < length m → IsReach m one other reach
    → Passed m one (other + 1) before (set now other reach)
one_passed m one other reach before now passed lt is = record {
  each = length-set now other reach ∙ passed.each;
  done = below_more _ _
      (λ k below. rw (get_or-set_other now other k reach 0 (omega arith)) (passed.done k below))
      (rw (get_or-set_same now other reach 0 (omega (arith, passed.each))) is);
  rest = λ k le. get_or-set_other now other k reach 0 (omega arith) ∙ passed.rest k (omega arith);
}

pub all_passed : (m : List Entry) (one other : ℕ) (before now : List ℕ) → length m ≤ other → Passed m one other before now → AreReaches m one now
all_passed m one other before now end passed = record { each = passed.each; reach = λ k lt. passed.done k (omega arith) }
