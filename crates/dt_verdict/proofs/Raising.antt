-- the greatest values of classes
use Rattle.std.proofs.Common.{◌≡◌, ◌≢◌, ◌⊎◌, inl, inr, ℕ, zero, suc, ◌+◌, ◌-◌, ◌*◌, ◌≤◌, ◌<◌, ◌==◌, ◌&&◌, Bool, true, false, cond, max, List, [], ◌∷◌, ◌++◌, length, set, get_or, replicate, slice_index, length-set, refl, sym, ap, subst, ◌∙◌, arith, eq-eqb}
use Rattle.std.specs.List.{All}
use Rattle.std.proofs.lemmas.Bool.{cases_lt}
use Rattle.std.proofs.lemmas.Bool.Decides.{eqb_tells}
use Rattle.std.proofs.lemmas.Int.{clamps}
use Rattle.std.proofs.lemmas.Grind.{get_or_default_zero, get_or-set_at}
use Rattle.std.proofs.lemmas.List.{get_or-replicate, get_or-set_other, length-replicate}
use Rattle.std.proofs.lemmas.List.Elements.{All-nil, All-cons, All-head, All-tail, All-weaker}
use Rattle.std.proofs.Math.Nat.{mul-le-mul_right}
use Rattle.dt_alike.specs.First.{first_alike, class_of}
use Rattle.dt_alike.proofs.Filling.{first_is_least, classes_are_alike}
use Rattle.dt_map.specs.declared.entry.Entry.{Entry}
use Rattle.dt_map.specs.Alike.{segment, alike}
use Rattle.dt_normal.specs.declared.low.Low.{Low}
use Rattle.dt_normal.specs.Table.{Table, IsSegment}
use Rattle.dt_check.specs.Greatest.{greatest_below, greatest_alike}
use Rattle.dt_check.specs.Members.{IsMember, names, table_of}
use Rattle.dt_cert.specs.Classes.{AreRising, IsEarlier}
use Rattle.dt_verdict.specs.Classed.{greatest_in}

-- numbers of classes
pub class_inside : (m : List Entry) (start len : ℕ) → IsSegment m start len → class_of m start len ≤ length m * length m
class_inside m start len is =
    let first = (first_is_least m start len).0 in
    elim (cases_lt len (length m)) [
      | inl less ↦ omega (arith, first, is.0, is.1, mul-le-mul_right {m = suc len} {n = length m} (length m) (omega (arith, less)))
      | inr from ↦
          let whole : len ≡ length m = omega (arith, from, is.1) in
          omega (arith, first, is.1, whole, ap (λ k. k * length m) whole)
    ]

-- one value more
pub greatest_in-push : (m : List Entry) (values : List Low) (a : Low) (class : ℕ) →
    greatest_in m (values ++ a ∷ []) class ≡ max (greatest_in m values class) (cond (class_of m a.from (a.to - a.from) == class) a.low 0)
greatest_in-push m [] a class = omega (arith, clamps)
greatest_in-push m (b ∷ values) a class = omega (arith, clamps, greatest_in-push m values a class)

-- the greatest of a test
greatest_of : (test : ℕ → Bool) (value : ℕ → ℕ) (n : ℕ)
    → (greatest_below test value n ≡ 0) ⊎ ((k : ℕ) × (k < n) × (test k ≡ true) × (greatest_below test value n ≡ value k))
greatest_of test value zero = inl refl
greatest_of test value (suc n) = of (test n) refl (greatest_of test value n)
  where
    last : (b : Bool) → test n ≡ b → (cond (test n) (value n) 0 ≡ 0) ⊎ ((test n ≡ true) × (cond (test n) (value n) 0 ≡ value n))
    last true is = inr (is, ap (λ b. cond b (value n) 0) is)
    last false is = inl (ap (λ b. cond b (value n) 0) is)

    of : (b : Bool) → test n ≡ b → (greatest_below test value n ≡ 0) ⊎ ((k : ℕ) × (k < n) × (test k ≡ true) × (greatest_below test value n ≡ value k))
        → (greatest_below test value (suc n) ≡ 0) ⊎ ((k : ℕ) × (k < suc n) × (test k ≡ true) × (greatest_below test value (suc n) ≡ value k))
    of b is before =
        elim (cases_lt (greatest_below test value n) (cond (test n) (value n) 0)) [
          | inl above ↦ elim (last b is) [
            | inl none ↦ inl (omega (arith, above, none))
            | inr here ↦ inr (n, omega arith, here.0, omega (arith, above, here.1))
          ]
          | inr from ↦ elim before [
            | inl none ↦ inl (omega (arith, from, none))
            | inr h ↦ inr (h.0, omega (arith, h.1), h.2, omega (arith, from, h.3))
          ]
        ]

greatest_above : (test : ℕ → Bool) (value : ℕ → ℕ) (n k : ℕ) → k < n → test k ≡ true → value k ≤ greatest_below test value n
greatest_above test value zero k lt passes = absurd (omega arith)
greatest_above test value (suc n) k lt passes =
    elim (cases_lt k n) [
      | inl less ↦ omega (arith, greatest_above test value n k less passes)
      | inr from ↦
          let same : k ≡ n = omega arith in
          omega (arith, ap value same, ap (λ b. cond b (value n) 0) (subst (λ j. test j ≡ true) same passes))
    ]

pub alike_above : (m : List Entry) (low : Table) (one other len : ℕ) → one + len ≤ length m → alike (segment m one len) (segment m other len) ≡ true → low one len ≤ greatest_alike m low other len
alike_above m low one other len inside same = greatest_above (λ k. alike (segment m k len) (segment m other len)) (λ k. low k len) (length m + 1 - len) one (omega (arith, inside)) same

-- a value of a rising list is what its table says
pub named_is : (a : Low) (start len : ℕ) → names a start len ≡ true → (a.from ≡ start) × (a.to - a.from ≡ len)
named_is a start len named = of (eqb_tells a.from start) (eqb_tells (a.to - a.from) len)
  where
    of : (((a.from == start) ≡ true) × (a.from ≡ start)) ⊎ (((a.from == start) ≡ false) × (a.from ≢ start)) → (((a.to - a.from == len) ≡ true) × (a.to - a.from ≡ len)) ⊎ (((a.to - a.from == len) ≡ false) × (a.to - a.from ≢ len))
        → (a.from ≡ start) × (a.to - a.from ≡ len)
    of (inl h) (inl k) = (h.1, k.1)
    of (inl h) (inr k) = absurd (cc (named, ap (λ b. b && (a.to - a.from == len)) h.0, k.0))
    of (inr h) k = absurd (cc (named, ap (λ b. b && (a.to - a.from == len)) h.0))

names_itself : (a : Low) → names a a.from (a.to - a.from) ≡ true
names_itself a = ap (λ b. b && (a.to - a.from == a.to - a.from)) (eq-eqb a.from a.from refl) ∙ eq-eqb (a.to - a.from) (a.to - a.from) refl

abbrev IsRead : List Low → Low → Type 0
IsRead values a = a.low ≡ table_of values a.from (a.to - a.from)

read_behind : (a : Low) (values : List Low) (b : Low) → IsEarlier a b → IsRead values b → IsRead (a ∷ values) b
read_behind a values b earlier is = of (names a b.from (b.to - b.from)) refl
  where
    of : (t : Bool) → names a b.from (b.to - b.from) ≡ t → b.low ≡ cond (names a b.from (b.to - b.from)) a.low (table_of values b.from (b.to - b.from))
    of true named = let same = named_is a b.from (b.to - b.from) named in elim earlier [ inl h ↦ absurd (omega (arith, h, same.1)) | inr h ↦ absurd (omega (arith, h.1, same.0)) ]
    of false named = is ∙ sym (ap (λ t. cond t a.low (table_of values b.from (b.to - b.from))) named)

all_behind : (a : Low) (values more : List Low) → All (IsEarlier a) more → All (IsRead values) more → All (IsRead (a ∷ values)) more
all_behind a values [] earlier read = All-nil (IsRead (a ∷ values))
all_behind a values (b ∷ more) earlier read =
    All-cons (IsRead (a ∷ values)) b more (read_behind a values b (All-head (IsEarlier a) b more earlier) (All-head (IsRead values) b more read))
    (all_behind a values more (All-tail (IsEarlier a) b more earlier) (All-tail (IsRead values) b more read))

all_read : (values : List Low) → AreRising values → All (IsRead values) values
all_read [] rising = All-nil (IsRead [])
all_read (a ∷ values) rising =
    All-cons (IsRead (a ∷ values)) a values (sym (ap (λ t. cond t a.low (table_of values a.from (a.to - a.from))) (names_itself a)))
    (all_behind a values values rising.0 (all_read values rising.1))

-- the greatest value of a class is the greatest of the segments alike
module _ (m : List Entry) (low : Table) (start len : ℕ) (is : IsSegment m start len) where
  abbrev IsGiven : Low → Type 0
  IsGiven a = IsMember m a × (a.low ≡ low a.from (a.to - a.from))

  one_below : (a : Low) → IsGiven a → cond (class_of m a.from (a.to - a.from) == class_of m start len) a.low 0 ≤ greatest_alike m low start len
  one_below a given = elim (eqb_tells (class_of m a.from (a.to - a.from)) (class_of m start len)) [
    | inl h ↦
        let same = (classes_are_alike m a.from start (a.to - a.from) len (omega (arith, (given.0).0, (given.0).1)) (omega (arith, is.0, is.1))).0 h.1 in
        let value : low a.from (a.to - a.from) ≡ low a.from len = ap (low a.from) same.0 in
        omega (
          arith,
          ap (λ t. cond t a.low 0) h.0,
          given.1,
          value,
          alike_above m low a.from start len (omega (arith, (given.0).0, (given.0).1, same.0)) (subst (λ l. alike (segment m a.from l) (segment m start len) ≡ true) same.0 same.1),
        )
    | inr h ↦ omega (arith, ap (λ t. cond t a.low 0) h.0)
  ]

  all_below : (values : List Low) → All IsGiven values → greatest_in m values (class_of m start len) ≤ greatest_alike m low start len
  all_below [] given = omega arith
  all_below (a ∷ values) given = omega (arith, clamps, one_below a (All-head IsGiven a values given), all_below values (All-tail IsGiven a values given))

table_below : (m : List Entry) (values : List Low) (start len : ℕ) → table_of values start len ≤ greatest_in m values (class_of m start len)
table_below m [] start len = omega arith
table_below m (a ∷ values) start len = of (names a start len) refl (table_below m values start len)
  where
    of : (t : Bool) → names a start len ≡ t → table_of values start len ≤ greatest_in m values (class_of m start len) → cond (names a start len) a.low (table_of values start len) ≤ greatest_in m (a ∷ values) (class_of m start len)
    of true named rest =
        let same = named_is a start len named in
        let class : class_of m a.from (a.to - a.from) ≡ class_of m start len = ap (λ k. class_of m k (a.to - a.from)) same.0 ∙ ap (class_of m start) same.1 in
        omega (arith, clamps, ap (λ t. cond t a.low (table_of values start len)) named, ap (λ t. cond t a.low 0) (eq-eqb (class_of m a.from (a.to - a.from)) (class_of m start len) class))
    of false named rest = omega (arith, clamps, ap (λ t. cond t a.low (table_of values start len)) named, rest)

alike_below : (m : List Entry) (values : List Low) (start len : ℕ) → IsSegment m start len → greatest_alike m (table_of values) start len ≤ greatest_in m values (class_of m start len)
alike_below m values start len is = elim (greatest_of (λ k. alike (segment m k len) (segment m start len)) (λ k. table_of values k len) (length m + 1 - len)) [
  | inl none ↦ omega (arith, none)
  | inr at ↦
      let class : class_of m at.0 len ≡ class_of m start len = (classes_are_alike m at.0 start len len (omega (arith, at.1, is.0)) (omega (arith, is.0, is.1))).1 (refl, at.2) in
      omega (arith, at.3, table_below m values at.0 len, ap (greatest_in m values) class)
]

both_given : (m : List Entry) (low : Table) (values : List Low) → All (IsMember m) values → All (λ a. a.low ≡ low a.from (a.to - a.from)) values → All (λ a. IsMember m a × (a.low ≡ low a.from (a.to - a.from))) values
both_given m low [] members read = All-nil (λ a. IsMember m a × (a.low ≡ low a.from (a.to - a.from)))
both_given m low (a ∷ values) members read =
    All-cons (λ a. IsMember m a × (a.low ≡ low a.from (a.to - a.from))) a values (All-head (IsMember m) a values members, All-head (λ a. a.low ≡ low a.from (a.to - a.from)) a values read)
    (both_given m low values (All-tail (IsMember m) a values members) (All-tail (λ a. a.low ≡ low a.from (a.to - a.from)) a values read))

pub greatest_is : (m : List Entry) (values : List Low) (start len : ℕ) → All (IsMember m) values → AreRising values → IsSegment m start len
    → greatest_in m values (class_of m start len) ≡ greatest_alike m (table_of values) start len
greatest_is m values start len members rising is =
    omega (
      arith,
      all_below m (table_of values) start len is values (both_given m (table_of values) values members (all_read values rising)),
      alike_below m values start len is,
    )

-- numbers that are raised value by value
pub record AreRaised (m : List Entry) (values : List Low) (numbers : List ℕ) : Type 0 where
  pub each : length numbers ≡ length m * length m + 1
  pub greatest : (class : ℕ) → class ≤ length m * length m → slice_index numbers class ≡ greatest_in m values class

pub none_raised : (m : List Entry) (numbers : List ℕ) → numbers ≡ replicate (length m * length m + 1) 0 → AreRaised m [] numbers
none_raised m numbers is = record {
  each = ap length is ∙ length-replicate {A = ℕ} (length m * length m + 1) 0;
  greatest = λ class le. ap (λ (xs : List ℕ). get_or xs class 0) is ∙ get_or-replicate {A = ℕ} (length m * length m + 1) class 0 0 (omega (arith, le));
}

pub one_raised : (m : List Entry) (values : List Low) (a : Low) (numbers : List ℕ) (number before value : ℕ) → AreRaised m values numbers → number ≡ class_of m a.from (a.to - a.from) → number ≤ length m * length m
    → before ≡ get_or numbers number before → value ≡ max a.low before → AreRaised m (values ++ a ∷ []) (set numbers number value)
one_raised m values a numbers number before value are is inside was raised = record { each = length-set numbers number value ∙ are.each; greatest = greatest }
  where
    greatest : (class : ℕ) → class ≤ length m * length m → get_or (set numbers number value) class 0 ≡ greatest_in m (values ++ a ∷ []) class
    greatest class le = elim (eqb_tells (class_of m a.from (a.to - a.from)) class) [
      | inl h ↦
          let here : class ≡ number = sym h.1 ∙ sym is in
          omega (
            arith,
            clamps,
            get_or-set_at numbers number class value 0 here (omega (arith, are.each, inside)),
            raised,
            was,
            get_or_default_zero numbers number before (omega (arith, are.each, inside)),
            are.greatest class le,
            ap (λ k. get_or numbers k 0) here,
            greatest_in-push m values a class,
            ap (λ t. cond t a.low 0) h.0,
          )
      | inr h ↦
          omega (
            arith,
            clamps,
            get_or-set_other numbers number class value 0 (λ e. h.1 (sym is ∙ sym e)),
            are.greatest class le,
            greatest_in-push m values a class,
            ap (λ t. cond t a.low 0) h.0,
          )
    ]
