-- the list of a table's values above 0 rises, and by its first segments alone gives each segment the value of its class
use Rattle.std.proofs.Common.{◌≡◌, ◌⊎◌, inl, inr, ℕ, zero, suc, ◌+◌, ◌-◌, ◌≤◌, ◌<◌, ◌==◌, ◌&&◌, ◌≢◌, Bool, true, false, cond, List, [], ◌∷◌, ◌++◌, map, length, refl, sym, ap, ◌∙◌, subst, arith, append-nil, eq-eqb}
use Rattle.std.specs.List.{All, filter}
use Rattle.std.proofs.lemmas.Bool.{cases_lt}
use Rattle.std.proofs.lemmas.Bool.Decides.{eqb_tells}
use Rattle.std.proofs.lemmas.Grind.{flat_map-append}
use Rattle.std.proofs.lemmas.List.{map_push}
use Rattle.std.proofs.lemmas.List.Elements.{All-nil, All-cons, All-head, All-tail, All-append, All-weaker, All-filter, filter-append}
use Rattle.dt_alike.specs.First.{first_alike}
use Rattle.dt_alike.proofs.Filling.{first_is_least}
use Rattle.dt_offsets.specs.Offsets.{below}
use Rattle.dt_map.specs.declared.entry.Entry.{Entry}
use Rattle.dt_map.specs.Alike.{segment}
use Rattle.dt_map.proofs.Likeness.{alike_is_equivalence}
use Rattle.dt_tree.specs.Weights.{Weights}
use Rattle.dt_normal.specs.declared.low.Low.{Low}
use Rattle.dt_normal.specs.Lows.{low_of, listed_at, listed, IsGreatest}
use Rattle.dt_normal.specs.Table.{Table, IsSegment}
use Rattle.dt_normal.proofs.Listing.{positive, front, lengths}
use Rattle.dt_check.specs.Members.{IsMember, names, table_of}
use Rattle.dt_check.proofs.Likening.{greatest_is_of_classes}
use Rattle.dt_check.proofs.Looking.{listed_is_table}
use Rattle.dt_cert.specs.Certificate.{ByClasses}
use Rattle.dt_cert.specs.Classes.{AreRising, IsEarlier, is_first, value_in}

-- members of one length, of starts below one; and of lengths up to one
record IsIn (n : ℕ) (table : Table) (size k : ℕ) (a : Low) : Type 0 where
  inside : a.to ≤ n
  some : a.from < a.to
  long : a.to - a.from ≡ size
  before : a.from < k
  value : a.low ≡ table a.from size

record IsUpTo (n : ℕ) (table : Table) (k : ℕ) (a : Low) : Type 0 where
  inside : a.to ≤ n
  some : a.from < a.to
  short : a.to - a.from ≤ k
  value : a.low ≡ table a.from (a.to - a.from)

one_rising : (a : Low) → AreRising (a ∷ [])
one_rising a = (All-nil (IsEarlier a), tt)

rising_joined : (P Q : Low → Type 0) (lows more : List Low) → ((a b : Low) → P a → Q b → IsEarlier a b) → All P lows → All Q more → AreRising lows → AreRising more → AreRising (lows ++ more)
rising_joined P Q [] more earlier all others one other = other
rising_joined P Q (a ∷ lows) more earlier all others one other = (
  All-append (IsEarlier a) lows more one.0 (All-weaker Q (IsEarlier a) (λ b. earlier a b (All-head P a lows all)) more others),
  rising_joined P Q lows more earlier (All-tail P a lows all) others one.1 other,
)

one_kept : (n : ℕ) (table : Table) (size k : ℕ) → 0 < size → k + size ≤ n → All (IsIn n table size (suc k)) (filter positive (low_of table size k ∷ [])) × AreRising (filter positive (low_of table size k ∷ []))
one_kept n table size k some inside = (All-filter positive (IsIn n table size (suc k)) (low_of table size k ∷ []) (All-cons (IsIn n table size (suc k)) (low_of table size k) [] is (All-nil (IsIn n table size (suc k)))), of (positive (low_of table size k)))
  where
    is : IsIn n table size (suc k) (low_of table size k)
    is = record { inside = inside; some = omega arith; long = omega arith; before = omega arith; value = refl }

    of : (b : Bool) → AreRising (cond b (low_of table size k ∷ []) [])
    of true = one_rising (low_of table size k)
    of false = tt

front_kept : (n : ℕ) (table : Table) (size k : ℕ) → 0 < size → k + size ≤ n + 1 → All (IsIn n table size k) (front table size k) × AreRising (front table size k)
front_kept n table size zero some inside = (All-nil (IsIn n table size 0), tt)
front_kept n table size (suc k) some inside =
    let before = front_kept n table size k some (omega arith) in
    let here = one_kept n table size k some (omega arith) in
    let more : front table size (suc k) ≡ front table size k ++ filter positive (low_of table size k ∷ []) =
    ap (filter positive) (map_push (low_of table size) (below k) k) ∙ filter-append positive (map (low_of table size) (below k)) (low_of table size k ∷ []) in
    subst (λ l. All (IsIn n table size (suc k)) l × AreRising l) (sym more) (
      All-append (IsIn n table size (suc k)) (front table size k) _ (All-weaker (IsIn n table size k) (IsIn n table size (suc k)) wider (front table size k) before.0) here.0,
      rising_joined (IsIn n table size k) (IsAt k) (front table size k) _ earlier before.0 (All-filter positive (IsAt k) (low_of table size k ∷ []) (All-cons (IsAt k) (low_of table size k) [] (refl, omega arith) (All-nil (IsAt k)))) before.1 here.1,
    )
  where
    IsAt : ℕ → Low → Type 0
    IsAt k a = (a.from ≡ k) × (a.to - a.from ≡ size)

    wider : (a : Low) → IsIn n table size k a → IsIn n table size (suc k) a
    wider a is = record { inside = is.inside; some = is.some; long = is.long; before = omega (arith, is.before); value = is.value }

    earlier : (a b : Low) → IsIn n table size k a → IsAt k b → IsEarlier a b
    earlier a b is at = inr (omega (arith, is.long, at.1), omega (arith, is.before, at.0))

lengths_kept : (n : ℕ) (table : Table) (k : ℕ) → k ≤ n → All (IsUpTo n table k) (lengths n table k) × AreRising (lengths n table k)
lengths_kept n table zero le = (All-nil (IsUpTo n table 0), tt)
lengths_kept n table (suc k) le =
    let before = lengths_kept n table k (omega arith) in
    let here = front_kept n table (suc k) (n + 1 - suc k) (omega arith) (omega arith) in
    let more : lengths n table (suc k) ≡ lengths n table k ++ listed_at n table (suc k) =
    flat_map-append (λ i. listed_at n table (suc i)) (below k) (k ∷ []) ∙ ap (λ l. lengths n table k ++ l) (append-nil (listed_at n table (suc k))) in
    subst (λ l. All (IsUpTo n table (suc k)) l × AreRising l) (sym more) (
      All-append (IsUpTo n table (suc k)) (lengths n table k) (listed_at n table (suc k)) (All-weaker (IsUpTo n table k) (IsUpTo n table (suc k)) wider (lengths n table k) before.0)
          (All-weaker (IsIn n table (suc k) (n + 1 - suc k)) (IsUpTo n table (suc k)) longest (listed_at n table (suc k)) here.0),
      rising_joined (IsUpTo n table k) (IsIn n table (suc k) (n + 1 - suc k)) (lengths n table k) (listed_at n table (suc k)) earlier before.0 here.0 before.1 here.1,
    )
  where
    wider : (a : Low) → IsUpTo n table k a → IsUpTo n table (suc k) a
    wider a is = record { inside = is.inside; some = is.some; short = omega (arith, is.short); value = is.value }

    longest : (a : Low) → IsIn n table (suc k) (n + 1 - suc k) a → IsUpTo n table (suc k) a
    longest a is = record { inside = is.inside; some = is.some; short = omega (arith, is.long); value = is.value ∙ ap (table a.from) (sym is.long) }

    earlier : (a b : Low) → IsUpTo n table k a → IsIn n table (suc k) (n + 1 - suc k) b → IsEarlier a b
    earlier a b one other = inl (omega (arith, one.short, other.long))

pub listed_members : (m : List Entry) (table : Table) → All (IsMember m) (listed (length m) table)
listed_members m table = All-weaker (IsUpTo (length m) table (length m)) (IsMember m) (λ a is. (is.some, is.inside)) (listed (length m) table) (lengths_kept (length m) table (length m) (omega arith)).0

pub listed_values : (P : ℕ → Type 0) (m : List Entry) (table : Table) → ((start len : ℕ) → IsSegment m start len → P (table start len)) → All (λ a. P a.low) (listed (length m) table)
listed_values P m table each =
    All-weaker (IsUpTo (length m) table (length m)) (λ a. P a.low) (λ a is. subst P (sym is.value) (each a.from (a.to - a.from) (omega (arith, is.some), omega (arith, is.some, is.inside)))) (listed (length m) table)
    (lengths_kept (length m) table (length m) (omega arith)).0

pub listed_rising : (m : List Entry) (table : Table) → AreRising (listed (length m) table)
listed_rising m table = (lengths_kept (length m) table (length m) (omega arith)).1

pub filter_rising : (test : Low → Bool) (lows : List Low) → AreRising lows → AreRising (filter test lows)
filter_rising test [] rising = tt
filter_rising test (a ∷ lows) rising = of (test a) (filter_rising test lows rising.1)
  where
    of : (b : Bool) → AreRising (filter test lows) → AreRising (cond b (a ∷ filter test lows) (filter test lows))
    of true rest = (All-filter test (IsEarlier a) lows rising.0, rest)
    of false rest = rest

-- a list by some members, at a segment whose members all are among these
kept_value : (test : Low → Bool) (lows : List Low) (start len : ℕ) → ((a : Low) → names a start len ≡ true → test a ≡ true) → table_of (filter test lows) start len ≡ table_of lows start len
kept_value test [] start len kept = refl
kept_value test (a ∷ lows) start len kept = of (test a) refl (kept_value test lows start len kept)
  where
    of : (b : Bool) → test a ≡ b → table_of (filter test lows) start len ≡ table_of lows start len
        → table_of (cond b (a ∷ filter test lows) (filter test lows)) start len ≡ cond (names a start len) a.low (table_of lows start len)
    of true is rest = ap (cond (names a start len) a.low) rest
    of false is rest = rest ∙ sym (ap (λ b. cond b a.low (table_of lows start len)) (not_named (names a start len) refl))
      where
        not_named : (b : Bool) → names a start len ≡ b → names a start len ≡ false
        not_named true named = absurd (cc (is, kept a named))
        not_named false named = named

named_is : (a : Low) (start len : ℕ) → names a start len ≡ true → (a.from ≡ start) × (a.to - a.from ≡ len)
named_is a start len named = of (eqb_tells a.from start) (eqb_tells (a.to - a.from) len)
  where
    of : (((a.from == start) ≡ true) × (a.from ≡ start)) ⊎ (((a.from == start) ≡ false) × (a.from ≢ start)) → (((a.to - a.from == len) ≡ true) × (a.to - a.from ≡ len)) ⊎ (((a.to - a.from == len) ≡ false) × (a.to - a.from ≢ len))
        → (a.from ≡ start) × (a.to - a.from ≡ len)
    of (inl h) (inl k) = (h.1, k.1)
    of (inl h) (inr k) = absurd (cc (named, ap (λ b. b && (a.to - a.from == len)) h.0, k.0))
    of (inr h) k = absurd (cc (named, ap (λ b. b && (a.to - a.from == len)) h.0))

-- the first segment of a class is its own first segment
first_of_first : (m : List Entry) (start len : ℕ) → first_alike m (first_alike m start len) len ≡ first_alike m start len
first_of_first m start len =
    let f = first_alike m start len in
    let one = first_is_least m start len in
    let two = first_is_least m (first_alike m start len) len in
    elim (cases_lt (first_alike m (first_alike m start len) len) (first_alike m start len)) [
      | inl less ↦
          absurd (one.2 (first_alike m (first_alike m start len) len) less
          (alike_is_equivalence.2 (segment m (first_alike m (first_alike m start len) len) len) (segment m (first_alike m start len) len) (segment m start len) two.1 one.1))
      | inr from ↦ omega (arith, two.0)
    ]

-- so the values of first segments give each segment what the table does
pub classes_give : (w : Weights) (m : List Entry) (table : Table) (start len : ℕ) → IsGreatest w m table → IsSegment m start len
    → table start len ≡ value_in ByClasses m (filter (is_first m) (listed (length m) table)) start len
classes_give w m table start len greatest segment_is =
    let f = first_alike m start len in
    let one = first_is_least m start len in
    let first_segment : IsSegment m f len = (segment_is.0, omega (arith, one.0, segment_is.1)) in
    let same : table f len ≡ table start len = greatest_is_of_classes w m table f start len greatest first_segment segment_is one.1 in
    let kept = kept_value (is_first m) (listed (length m) table) f len (λ a named.
    let h = named_is a f len named in
    eq-eqb (first_alike m a.from (a.to - a.from)) a.from (ap (λ s. first_alike m s (a.to - a.from)) h.0 ∙ (ap (first_alike m f) h.1 ∙ (first_of_first m start len ∙ sym h.0)))) in
    sym (kept ∙ (listed_is_table m table f len first_segment ∙ same))
