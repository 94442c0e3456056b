-- looked up in its list, a segment has the table's value
use Rattle.std.proofs.Common.{◌≡◌, ◌⊎◌, inl, inr, ℕ, zero, suc, ◌+◌, ◌-◌, ◌≤◌, ◌<◌, Bool, true, false, cond, ◌==◌, ◌&&◌, List, [], ◌∷◌, ◌++◌, map, length, refl, sym, ap, ◌∙◌, subst, arith, eq-eqb, append-nil, ◌≢◌}
use Rattle.std.specs.List.{filter}
use Rattle.std.proofs.lemmas.Bool.{cases_lt, lt-ltb, le-ltb}
use Rattle.std.proofs.lemmas.Bool.Decides.{eqb_tells}
use Rattle.std.proofs.lemmas.List.{map_push}
use Rattle.std.proofs.lemmas.List.Elements.{filter-append}
use Rattle.std.proofs.lemmas.Grind.{flat_map-append}
use Rattle.dt_offsets.specs.Offsets.{below}
use Rattle.dt_normal.specs.declared.low.Low.{Low}
use Rattle.dt_normal.specs.Lows.{low_of, listed_at}
use Rattle.dt_normal.specs.Table.{Table}
use Rattle.dt_normal.proofs.Listing.{positive, front, lengths}
use Rattle.dt_check.specs.Laws.{ListedIsTable}
use Rattle.dt_check.specs.Members.{names, table_of}

-- what a list gives, where another one stands behind it: the same where that is above 0, and else what the other gives, since no
-- member's value is 0
abbrev Positive : List Low → Type 0
Positive [] = ℕ
Positive (a ∷ lows) = (0 < a.low) × Positive lows

table_joined : (lows more : List Low) (start len : ℕ) → Positive lows
    → ((0 < table_of lows start len) × (table_of (lows ++ more) start len ≡ table_of lows start len)) ⊎ ((table_of lows start len ≡ 0) × (table_of (lows ++ more) start len ≡ table_of more start len))
table_joined [] more start len positive = inr (refl, refl)
table_joined (a ∷ lows) more start len positive = of (names a start len) (table_joined lows more start len positive.1)
  where
    of : (b : Bool) → ((0 < table_of lows start len) × (table_of (lows ++ more) start len ≡ table_of lows start len)) ⊎ ((table_of lows start len ≡ 0) × (table_of (lows ++ more) start len ≡ table_of more start len))
        → ((0 < cond b a.low (table_of lows start len)) × (cond b a.low (table_of (lows ++ more) start len) ≡ cond b a.low (table_of lows start len)))
        ⊎ ((cond b a.low (table_of lows start len) ≡ 0) × (cond b a.low (table_of (lows ++ more) start len) ≡ table_of more start len))
    of true h = inl (positive.0, refl)
    of false h = h

positive_joined : (lows more : List Low) → Positive lows → Positive more → Positive (lows ++ more)
positive_joined [] more one other = other
positive_joined (a ∷ lows) more one other = (one.0, positive_joined lows more one.1 other)

-- the list of one segment
abbrev one : Table → ℕ → ℕ → List Low
one table size k = filter positive (low_of table size k ∷ [])

one_of : (table : Table) (size k : ℕ) → ((0 < table k size) × (one table size k ≡ low_of table size k ∷ [])) ⊎ ((table k size ≡ 0) × (one table size k ≡ []))
one_of table size k =
    elim (cases_lt 0 (table k size)) [
      | inl some ↦ inl (some, ap (λ b. cond b (low_of table size k ∷ []) []) (lt-ltb 0 (table k size) some))
      | inr none ↦ inr (omega (arith, none), ap (λ b. cond b (low_of table size k ∷ []) []) (le-ltb 0 (table k size) none))
    ]

one_positive : (table : Table) (size k : ℕ) → Positive (one table size k)
one_positive table size k =
    elim (one_of table size k) [
      | inl some ↦ subst Positive (sym some.1) (some.0, 0)
      | inr none ↦ subst Positive (sym none.1) 0
    ]

one_hit : (table : Table) (size k : ℕ) → table_of (one table size k) k size ≡ table k size
one_hit table size k =
    elim (one_of table size k) [
      | inl some ↦
          let long : k + size - k ≡ size = omega arith in
          let named : names (low_of table size k) k size ≡ true = ap (λ b. b && (k + size - k == size)) (eq-eqb k k refl) ∙ eq-eqb (k + size - k) size long in
          ap (λ l. table_of l k size) some.1 ∙ ap (λ b. cond b (table k size) 0) named
      | inr none ↦ ap (λ l. table_of l k size) none.1 ∙ sym none.0
    ]

one_miss : (table : Table) (size k start len : ℕ) → ((k ≡ start) × (size ≡ len) → ⊥) → table_of (one table size k) start len ≡ 0
one_miss table size k start len other =
    elim (one_of table size k) [
      | inr none ↦ ap (λ l. table_of l start len) none.1
      | inl some ↦ ap (λ l. table_of l start len) some.1 ∙ of (eqb_tells k start) (eqb_tells (k + size - k) len)
    ]
  where
    of : (((k == start) ≡ true) × (k ≡ start)) ⊎ (((k == start) ≡ false) × (k ≢ start)) → (((k + size - k == len) ≡ true) × (k + size - k ≡ len)) ⊎ (((k + size - k == len) ≡ false) × (k + size - k ≢ len))
        → cond ((k == start) && (k + size - k == len)) (table k size) 0 ≡ 0
    of (inr apart) h = ap (λ b. cond (b && (k + size - k == len)) (table k size) 0) apart.0
    of (inl same) (inr apart) = ap (λ b. cond ((k == start) && b) (table k size) 0) apart.0 ∙ ap (λ b. cond (b && false) (table k size) 0) same.0
    of (inl same) (inl long) = absurd (other (same.1, omega (arith, long.1)))

-- the segments of one length
front_more : (table : Table) (size k : ℕ) → front table size (suc k) ≡ front table size k ++ one table size k
front_more table size k = ap (filter positive) (map_push (low_of table size) (below k) k) ∙ filter-append positive (map (low_of table size) (below k)) (low_of table size k ∷ [])

front_positive : (table : Table) (size k : ℕ) → Positive (front table size k)
front_positive table size zero = 0
front_positive table size (suc k) = subst Positive (sym (front_more table size k)) (positive_joined (front table size k) (one table size k) (front_positive table size k) (one_positive table size k))

front_miss : (table : Table) (size k start len : ℕ) → (size ≡ len → ⊥) ⊎ (k ≤ start) → table_of (front table size k) start len ≡ 0
front_miss table size zero start len out = refl
front_miss table size (suc k) start len out =
    let before = front_miss table size k start len (elim out [ inl apart ↦ inl apart | inr le ↦ inr (omega arith) ]) in
    let here = one_miss table size k start len (λ h. elim out [ inl apart ↦ apart h.1 | inr le ↦ absurd (omega (arith, h.0)) ]) in
    ap (λ l. table_of l start len) (front_more table size k) ∙ elim (table_joined (front table size k) (one table size k) start len (front_positive table size k)) [
      | inl h ↦ h.1 ∙ before
      | inr h ↦ h.1 ∙ here
    ]

front_hit : (table : Table) (size k start : ℕ) → start < k → table_of (front table size k) start size ≡ table start size
front_hit table size zero start lt = absurd (omega arith)
front_hit table size (suc k) start lt =
    ap (λ l. table_of l start size) (front_more table size k) ∙ elim (cases_lt start k) [
      | inl before ↦
          let held = front_hit table size k start before in
          let missed = one_miss table size k start size (λ h. absurd (omega (arith, h.0))) in
          elim (table_joined (front table size k) (one table size k) start size (front_positive table size k)) [
            | inl h ↦ h.1 ∙ held
            | inr h ↦ h.1 ∙ (missed ∙ (sym h.0 ∙ held))
          ]
      | inr from ↦
          let same : k ≡ start = omega arith in
          let missed = front_miss table size k start size (inr (omega (arith, from))) in
          let held : table_of (one table size k) start size ≡ table start size = subst (λ i. table_of (one table size k) i size ≡ table i size) same (one_hit table size k) in
          elim (table_joined (front table size k) (one table size k) start size (front_positive table size k)) [
            | inl h ↦ absurd (omega (arith, h.0, missed))
            | inr h ↦ h.1 ∙ held
          ]
    ]

-- all lengths
lengths_more : (n : ℕ) (table : Table) (k : ℕ) → lengths n table (suc k) ≡ lengths n table k ++ listed_at n table (suc k)
lengths_more n table k = flat_map-append (λ i. listed_at n table (suc i)) (below k) (k ∷ []) ∙ ap (λ l. lengths n table k ++ l) (append-nil (listed_at n table (suc k)))

lengths_positive : (n : ℕ) (table : Table) (k : ℕ) → Positive (lengths n table k)
lengths_positive n table zero = 0
lengths_positive n table (suc k) =
    subst Positive (sym (lengths_more n table k)) (positive_joined (lengths n table k) (listed_at n table (suc k)) (lengths_positive n table k) (front_positive table (suc k) (n + 1 - suc k)))

lengths_miss : (n : ℕ) (table : Table) (k start len : ℕ) → k < len → table_of (lengths n table k) start len ≡ 0
lengths_miss n table zero start len less = refl
lengths_miss n table (suc k) start len less =
    ap (λ l. table_of l start len) (lengths_more n table k) ∙ elim (table_joined (lengths n table k) (listed_at n table (suc k)) start len (lengths_positive n table k)) [
      | inl h ↦ h.1 ∙ lengths_miss n table k start len (omega arith)
      | inr h ↦ h.1 ∙ front_miss table (suc k) (n + 1 - suc k) start len (inl (λ e. absurd (omega (arith, e))))
    ]

lengths_hit : (n : ℕ) (table : Table) (k start len : ℕ) → 0 < len → len ≤ k → start + len ≤ n → table_of (lengths n table k) start len ≡ table start len
lengths_hit n table zero start len some le inside = absurd (omega arith)
lengths_hit n table (suc k) start len some le inside =
    ap (λ l. table_of l start len) (lengths_more n table k) ∙ elim (cases_lt k len) [
      | inr before ↦
          let held = lengths_hit n table k start len some before inside in
          let missed = front_miss table (suc k) (n + 1 - suc k) start len (inl (λ e. absurd (omega (arith, e)))) in
          elim (table_joined (lengths n table k) (listed_at n table (suc k)) start len (lengths_positive n table k)) [
            | inl h ↦ h.1 ∙ held
            | inr h ↦ h.1 ∙ (missed ∙ (sym h.0 ∙ held))
          ]
      | inl more ↦
          let same : suc k ≡ len = omega arith in
          let missed = lengths_miss n table k start len more in
          let held : table_of (listed_at n table (suc k)) start len ≡ table start len =
          subst (λ s. table_of (listed_at n table (suc k)) start s ≡ table start s) same (front_hit table (suc k) (n + 1 - suc k) start (omega arith)) in
          elim (table_joined (lengths n table k) (listed_at n table (suc k)) start len (lengths_positive n table k)) [
            | inl h ↦ absurd (omega (arith, h.0, missed))
            | inr h ↦ h.1 ∙ held
          ]
    ]

pub listed_is_table : ListedIsTable
listed_is_table m table start len segment = lengths_hit (length m) table (length m) start len segment.0 (omega (arith, segment.1)) segment.1
