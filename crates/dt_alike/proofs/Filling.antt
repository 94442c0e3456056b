-- the first start of an alike segment, from the reaches
use Rattle.std.proofs.Common.{◌≡◌, ℕ, suc, ◌+◌, ◌-◌, ◌*◌, ◌≤◌, ◌<◌, true, Option, List, [], ◌++◌, length, get_or, replicate, unwrap_or, refl, sym, ap, subst, ◌∙◌, arith, inl, inr, length-append}
use Rattle.std.proofs.lemmas.Bool.{cases_lt}
use Rattle.std.proofs.lemmas.List.{get_or_append_left, get_or-append_right, get_or-replicate, length-replicate}
use Rattle.std.proofs.lemmas.Nat.{same_from_place}
use Rattle.dt_map.specs.declared.entry.Entry.{Entry}
use Rattle.dt_map.specs.Alike.{segment, alike}
use Rattle.dt_alike.specs.First.{first_alike, class_of, AreFirsts}
use Rattle.dt_alike.specs.Laws.{FirstIsLeast, ClassesAreAlike}
use Rattle.dt_alike.specs.Reach.{IsReach, AreReaches}
use Rattle.dt_alike.proofs.Searching.{Lookup, none, some, looked}
use Rattle.dt_alike.proofs.Segments.{alike_front, alike_self, alike_sym, alike_trans}

-- the least start of a segment of a length that is alike
pub record IsEarliest (m : List Entry) (start len f : ℕ) : Type 0 where
  pub before : f ≤ start
  pub same : alike (segment m f len) (segment m start len) ≡ true
  pub least : (k : ℕ) → k < f → alike (segment m k len) (segment m start len) ≡ true → ⊥

earliest_found : (m : List Entry) (start len : ℕ) (found : Option ℕ) → Lookup (λ k. alike (segment m k len) (segment m start len)) start found
    → IsEarliest m start len (unwrap_or found start)
earliest_found m start len _ (none before) = record { before = omega arith; same = alike_self (segment m start len); least = before }
earliest_found m start len _ (some f lt passes least) = record { before = omega arith; same = passes; least = least }

pub earliest : (m : List Entry) (start len : ℕ) → IsEarliest m start len (first_alike m start len)
earliest m start len = earliest_found m start len _ (looked (λ k. alike (segment m k len) (segment m start len)) start)

pub first_is_least : FirstIsLeast
first_is_least m start len = let found = earliest m start len in (found.before, found.same, found.least)

one_earliest : (m : List Entry) (start len f g : ℕ) → IsEarliest m start len f → IsEarliest m start len g → f ≤ g
one_earliest m start len f g one other = elim (cases_lt g f) [ inl less ↦ absurd (one.least g less other.same) | inr more ↦ more ]

pub earliest_is : (m : List Entry) (start len f : ℕ) → IsEarliest m start len f → f ≡ first_alike m start len
earliest_is m start len f one =
    let other = earliest m start len in
    omega (arith, one_earliest m start len f (first_alike m start len) one other, one_earliest m start len (first_alike m start len) f other one)

-- alike segments have one first start
first_le : (m : List Entry) (one other len : ℕ) → alike (segment m one len) (segment m other len) ≡ true → first_alike m one len ≤ first_alike m other len
first_le m one other len same =
    let here = earliest m one len in
    let there = earliest m other len in
    elim (cases_lt (first_alike m other len) (first_alike m one len)) [
      | inl less ↦ absurd (here.least (first_alike m other len) less (alike_trans (segment m (first_alike m other len) len) (segment m other len) (segment m one len) there.same (alike_sym (segment m one len) (segment m other len) same)))
      | inr more ↦ more
    ]

class_same : (m : List Entry) (one other len : ℕ) → alike (segment m one len) (segment m other len) ≡ true → class_of m one len ≡ class_of m other len
class_same m one other len same =
    let first : first_alike m one len ≡ first_alike m other len =
    omega (arith, first_le m one other len same, first_le m other one len (alike_sym (segment m one len) (segment m other len) same)) in
    ap (λ f. len * length m + f) first

pub classes_are_alike : ClassesAreAlike
classes_are_alike m one other len size inside other_inside = (
  λ e.
      let here = earliest m one len in
      let there = earliest m other size in
      let places = same_from_place len (first_alike m one len) size (first_alike m other size) (length m) (omega (arith, here.before)) (omega (arith, there.before)) e in
      let at : alike (segment m (first_alike m one len) len) (segment m other size) ≡ true = rw (places.1, places.0) there.same in
      (places.0, alike_trans (segment m one len) (segment m (first_alike m one len) len) (segment m other size) (alike_sym (segment m (first_alike m one len) len) (segment m one len) here.same) at),
  λ h.
      let same : alike (segment m one len) (segment m other len) ≡ true = subst (λ n. alike (segment m one len) (segment m other n) ≡ true) (sym h.0) h.1 in
      class_same m one other len same ∙ ap (λ n. class_of m other n) h.0,
)

-- the first starts of the shorter segments, from the reaches with the places before k
pub record Filled (m : List Entry) (start k : ℕ) (reaches firsts : List ℕ) : Type 0 where
  pub inside : start + length firsts ≤ length m
  pub found : (j : ℕ) → j < length firsts → IsEarliest m start (suc j) (get_or firsts j 0)
  pub none : (i : ℕ) → i < k → get_or reaches i 0 ≤ length firsts

pub none_filled : (m : List Entry) (start : ℕ) (reaches : List ℕ) → start < length m → Filled m start 0 reaches []
none_filled m start reaches lt = record { inside = omega arith; found = λ j lt. absurd (omega arith); none = λ i lt. absurd (omega arith) }

-- a place whose reach is shorter is the start of no alike segment
too_short : (m : List Entry) (start i reach len : ℕ) → IsReach m start i reach → reach < len → start + len ≤ length m → i ≤ start
    → alike (segment m i len) (segment m start len) ≡ true → ⊥
too_short m start i reach len is less inside before same =
    is.stops (omega arith) (omega arith) (alike_front m start i (suc reach) len (omega arith) (alike_sym (segment m i len) (segment m start len) same))

filled_with : (m : List Entry) (start k : ℕ) (reaches firsts : List ℕ) (j : ℕ) → AreReaches m start reaches → k ≤ start → start < length m → Filled m start k reaches firsts
    → length firsts ≤ j → j < get_or reaches k 0 → IsEarliest m start (suc j) k
filled_with m start k reaches firsts j are before lt filled from less =
    let here = are.reach k (omega arith) in
    record {
      before = before;
      same = alike_sym (segment m start (suc j)) (segment m k (suc j)) (alike_front m start k (suc j) (get_or reaches k 0) (omega arith) here.same);
      least = λ i below same. too_short m start i (get_or reaches i 0) (suc j) (are.reach i (omega arith)) (omega (arith, filled.none i below)) (omega (arith, here.inside)) (omega arith) same;
    }

pub one_filled : (m : List Entry) (start k : ℕ) (reaches firsts : List ℕ) → AreReaches m start reaches → k ≤ start → start < length m → Filled m start k reaches firsts
    → Filled m start (k + 1) reaches (firsts ++ replicate (get_or reaches k 0 - length firsts) k)
one_filled m start k reaches firsts are before lt filled =
    let n : ℕ = length firsts in
    let r : ℕ = get_or reaches k 0 in
    let whole : length (firsts ++ replicate (r - n) k) ≡ n + (r - n) = length-append firsts (replicate (r - n) k) ∙ ap (λ x. n + x) (length-replicate (r - n) k) in
    let reach = are.reach k (omega arith) in
    record {
      inside = omega (arith, reach.inside, filled.inside);
      found = λ j less. elim (cases_lt j n) [
        | inl old ↦ rw (get_or_append_left firsts (replicate (r - n) k) 0 j old) (filled.found j old)
        | inr new ↦
            let at : get_or (firsts ++ replicate (r - n) k) j 0 ≡ k =
            get_or-append_right firsts (replicate (r - n) k) n j 0 refl new ∙ get_or-replicate (r - n) (j - n) k 0 (omega arith) in
            rw at (filled_with m start k reaches firsts j are before lt filled new (omega arith))
      ];
      none = λ i less. elim (cases_lt i k) [
        | inl old ↦ omega (arith, filled.none i old)
        | inr last ↦ let same : i ≡ k = omega arith in rw same (omega arith)
      ];
    }

pub all_filled : (m : List Entry) (start : ℕ) (reaches firsts : List ℕ) → AreReaches m start reaches → start < length m → Filled m start (start + 1) reaches firsts
    → AreFirsts m start firsts
all_filled m start reaches firsts are lt filled =
    let own = are.reach start lt in
    let most = filled.none start (omega arith) in
    let end : length m ≤ start + get_or reaches start 0 = elim (cases_lt (start + get_or reaches start 0) (length m)) [
      | inl less ↦ absurd (own.stops less less (alike_self (segment m start (suc (get_or reaches start 0)))))
      | inr more ↦ more
    ] in
    record {
      each = omega (arith, filled.inside);
      first = λ k less. earliest_is m start (suc k) (get_or firsts k 0) (filled.found k less);
    }
