-- numbers in rows: read, set, and of one length more
use Rattle.std.proofs.Common.{◌≡◌, inl, inr, ℕ, zero, suc, ◌+◌, ◌-◌, ◌≤◌, ◌<◌, ◌==◌, ◌&&◌, Bool, true, false, cond, List, [], ◌∷◌, ◌++◌, length, get_or, set, replicate, refl, sym, ap, ◌∙◌, subst, arith, below_more, length-append, length-set, drop, drop-cons, eq-eqb}
use Rattle.std.specs.Global.{Vec}
use Rattle.std.proofs.lemmas.Bool.{cases_lt, cases_eq, ne_eqb}
use Rattle.std.proofs.lemmas.List.{get_or_default, get_or_past, get_or-replicate, length-replicate, get_or-set_same, get_or-set_other, drop_all}
use Rattle.dt_normal.specs.declared.low.Low.{Low}
use Rattle.dt_check.specs.Members.{names, table_of}
use Rattle.dt_check.specs.Rows.{row_at, table_in, AreRows, with_value}

pub row_read : (rows : List (Vec ℕ)) (k : ℕ) (other : Vec ℕ) → k < length rows → row_at rows k ≡ (get_or rows k other).items
row_read [] k other lt = absurd (omega arith)
row_read (row ∷ rows) zero other lt = refl
row_read (row ∷ rows) (suc k) other lt = row_read rows k other (omega arith)

pub row_none : (rows : List (Vec ℕ)) (k : ℕ) → length rows ≤ k → row_at rows k ≡ []
row_none [] k end = refl
row_none (row ∷ rows) zero end = absurd (omega arith)
row_none (row ∷ rows) (suc k) end = row_none rows k (omega arith)

-- a number as it is read
pub table_read : (rows : List (Vec ℕ)) (start len n value : ℕ) (row : Vec ℕ) → AreRows n rows → 1 ≤ len → len ≤ length rows → start + len ≤ n → row ≡ get_or rows (len - 1) row
    → value ≡ get_or row.items start value → table_in rows start len ≡ value
table_read rows start zero n value row are some known inside is at = absurd (omega arith)
table_read rows start (suc k) n value row are some known inside is at =
    let place : suc k - 1 ≡ k = omega arith in
    let here : row_at rows k ≡ row.items = row_read rows k row known ∙ ap (λ (v : Vec ℕ). v.items) (ap (λ i. get_or rows i row) (sym place) ∙ sym is) in
    let within : start < length row.items = omega (arith, are.row k known, ap length here) in
    ap (λ xs. get_or xs start 0) here ∙ (get_or_default row.items start 0 value within ∙ sym at)

-- no number stands outside the rows
pub table_outside : (n : ℕ) (rows : List (Vec ℕ)) (start len : ℕ) → AreRows n rows → n < start + len → table_in rows start len ≡ 0
table_outside n rows start zero are out = refl
table_outside n rows start (suc k) are out =
    elim (cases_lt k (length rows)) [
      | inl less ↦ get_or_past (row_at rows k) start 0 (omega (arith, are.row k less))
      | inr from ↦ ap (λ xs. get_or xs start 0) (row_none rows k from) ∙ get_or_past {X = ℕ} [] start 0 (omega arith)
    ]

pub table_beyond : (rows : List (Vec ℕ)) (start len : ℕ) → length rows < len → table_in rows start len ≡ 0
table_beyond rows start zero out = refl
table_beyond rows start (suc k) out = ap (λ xs. get_or xs start 0) (row_none rows k (omega arith)) ∙ get_or_past {X = ℕ} [] start 0 (omega arith)

-- one row more
row_before : (rows : List (Vec ℕ)) (row : Vec ℕ) (k : ℕ) → k < length rows → row_at (rows ++ row ∷ []) k ≡ row_at rows k
row_before [] row k lt = absurd (omega arith)
row_before (x ∷ rows) row zero lt = refl
row_before (x ∷ rows) row (suc k) lt = row_before rows row k (omega arith)

row_last : (rows : List (Vec ℕ)) (row : Vec ℕ) → row_at (rows ++ row ∷ []) (length rows) ≡ row.items
row_last [] row = refl
row_last (x ∷ rows) row = row_last rows row

pub rows_more : (n : ℕ) (rows : List (Vec ℕ)) (row : Vec ℕ) → AreRows n rows → length rows < n → length row.items ≡ n - length rows → AreRows n (rows ++ row ∷ [])
rows_more n rows row are less long = record {
  few = omega (arith, length-append rows (row ∷ []));
  row = λ k lt. below_more (λ i. length (row_at (rows ++ row ∷ []) i) ≡ n - i) (length rows)
      (λ i below. ap length (row_before rows row i below) ∙ are.row i below)
      (ap length (row_last rows row) ∙ long) k (omega (arith, length-append rows (row ∷ [])));
}

pub table_before : (rows : List (Vec ℕ)) (row : Vec ℕ) (start len : ℕ) → len ≤ length rows → table_in (rows ++ row ∷ []) start len ≡ table_in rows start len
table_before rows row start zero le = refl
table_before rows row start (suc k) le = ap (λ xs. get_or xs start 0) (row_before rows row k (omega arith))

pub table_last : (rows : List (Vec ℕ)) (row : Vec ℕ) (start len : ℕ) → len ≡ length rows + 1 → table_in (rows ++ row ∷ []) start len ≡ get_or row.items start 0
table_last rows row start zero e = absurd (omega (arith, e))
table_last rows row start (suc k) e =
    let same : k ≡ length rows = omega (arith, e) in
    ap (λ xs. get_or xs start 0) (ap (row_at (rows ++ row ∷ [])) same ∙ row_last rows row)

-- zeros
pub record AreZeros (n k : ℕ) (rows : List (Vec ℕ)) : Type 0 where
  pub shape : AreRows n rows
  pub each : length rows ≡ k
  pub zeros : (start len : ℕ) → table_in rows start len ≡ 0

pub no_zeros : (n : ℕ) → AreZeros n 0 []
no_zeros n = record { shape = record { few = omega arith; row = λ k lt. absurd (omega arith) }; each = refl; zeros = λ start len. none start len }
  where
    none : (start len : ℕ) → table_in [] start len ≡ 0
    none start zero = refl
    none start (suc k) = get_or_past {X = ℕ} [] start 0 (omega arith)

pub more_zeros : (n k : ℕ) (rows : List (Vec ℕ)) (row : Vec ℕ) → AreZeros n k rows → k < n → row.items ≡ replicate (n - k) 0 → AreZeros n (k + 1) (rows ++ row ∷ [])
more_zeros n k rows row are less is = record {
  shape = rows_more n rows row are.shape (omega (arith, are.each)) (ap length is ∙ (length-replicate {A = ℕ} (n - k) 0 ∙ omega (arith, are.each)));
  each = omega (arith, length-append rows (row ∷ []), are.each);
  zeros = λ start len. elim (cases_lt (length rows) len) [
    | inl more ↦ elim (cases_lt (length rows + 1) len) [
      | inl out ↦ table_beyond (rows ++ row ∷ []) start len (omega (arith, length-append rows (row ∷ [])))
      | inr last ↦ table_last rows row start len (omega arith) ∙ (ap (λ (xs : List ℕ). get_or xs start 0) is ∙ none (n - k) start)
    ]
    | inr within ↦ table_before rows row start len within ∙ are.zeros start len
  ];
}
  where
    none : (count start : ℕ) → get_or {A = ℕ} (replicate count 0) start 0 ≡ 0
    none count start =
        elim (cases_lt start count) [
          | inl less ↦ get_or-replicate {A = ℕ} count start 0 0 less
          | inr from ↦ get_or_past {X = ℕ} (replicate count 0) start 0 (omega (arith, length-replicate {A = ℕ} count 0))
        ]

-- a number set
row_set_same : (rows : List (Vec ℕ)) (i : ℕ) (row : Vec ℕ) → i < length rows → row_at (set rows i row) i ≡ row.items
row_set_same [] i row lt = absurd (omega arith)
row_set_same (x ∷ rows) zero row lt = refl
row_set_same (x ∷ rows) (suc i) row lt = row_set_same rows i row (omega arith)

row_set_other : (rows : List (Vec ℕ)) (i k : ℕ) (row : Vec ℕ) → (k ≡ i → ⊥) → row_at (set rows i row) k ≡ row_at rows k
row_set_other [] i k row other = refl
row_set_other (x ∷ rows) zero zero row other = absurd (other refl)
row_set_other (x ∷ rows) zero (suc k) row other = refl
row_set_other (x ∷ rows) (suc i) zero row other = refl
row_set_other (x ∷ rows) (suc i) (suc k) row other = row_set_other rows i k row (λ e. other (ap suc e))

-- where a number is set
pub record IsPlace (n : ℕ) (rows : List (Vec ℕ)) (from size : ℕ) (row : Vec ℕ) : Type 0 where
  pub shape : AreRows n rows
  pub some : 1 ≤ size
  pub known : size ≤ length rows
  pub inside : from + size ≤ n
  pub is : row ≡ get_or rows (size - 1) row

here : (n : ℕ) (rows : List (Vec ℕ)) (from size : ℕ) (row : Vec ℕ) → IsPlace n rows from size row → row_at rows (size - 1) ≡ row.items
here n rows from size row at = row_read rows (size - 1) row (omega (arith, at.some, at.known)) ∙ ap (λ (v : Vec ℕ). v.items) (sym at.is)

pub place_within : (n : ℕ) (rows : List (Vec ℕ)) (from size : ℕ) (row : Vec ℕ) → IsPlace n rows from size row → from < length row.items
place_within n rows from size row at = omega (arith, at.some, at.inside, at.shape.row (size - 1) (omega (arith, at.some, at.known)), ap length (here n rows from size row at))

pub rows_set : (n : ℕ) (rows : List (Vec ℕ)) (from size : ℕ) (row now : Vec ℕ) → IsPlace n rows from size row → length now.items ≡ length row.items → AreRows n (set rows (size - 1) now)
rows_set n rows from size row now at same = record {
  few = omega (arith, length-set rows (size - 1) now, at.shape.few);
  row = λ k lt. elim (cases_eq k (size - 1)) [
    | inl e ↦
        let within : k < length rows = omega (arith, length-set rows (size - 1) now) in
        let old : row_at rows k ≡ row.items = ap (row_at rows) e ∙ here n rows from size row at in
        ap (λ j. length (row_at (set rows (size - 1) now) j)) e ∙ (ap length (row_set_same rows (size - 1) now (omega (arith, at.some, at.known)))
        ∙ (same ∙ (sym (ap length old) ∙ at.shape.row k within)))
    | inr other ↦
        ap length (row_set_other rows (size - 1) k now other) ∙ at.shape.row k (omega (arith, length-set rows (size - 1) now))
  ];
}

pub table_set : (n : ℕ) (rows : List (Vec ℕ)) (from size value : ℕ) (row now : Vec ℕ) → IsPlace n rows from size row → now.items ≡ set row.items from value
    → (start len : ℕ) → table_in (set rows (size - 1) now) start len ≡ with_value (table_in rows) from size value start len
table_set n rows from size value row now at is start zero =
    sym (ap (λ b. cond b value 0) (ap (λ b. (from == start) && b) (ne_eqb size 0 (λ e. absurd (omega (arith, e, at.some)))) ∙ and_false (from == start)))
  where
    and_false : (b : Bool) → (b && false) ≡ false
    and_false true = refl
    and_false false = refl
table_set n rows from size value row now at is start (suc k) =
    elim (cases_eq size (suc k)) [
      | inr other ↦
          let apart : row_at (set rows (size - 1) now) k ≡ row_at rows k = row_set_other rows (size - 1) k now (λ e. other (omega (arith, e, at.some))) in
          ap (λ xs. get_or xs start 0) apart ∙ sym (ap (λ b. cond b value (get_or (row_at rows k) start 0)) (ap (λ b. (from == start) && b) (ne_eqb size (suc k) other) ∙ and_false (from == start)))
      | inl e ↦
          let same : k ≡ size - 1 = omega (arith, e) in
          let new : row_at (set rows (size - 1) now) k ≡ set row.items from value =
          ap (row_at (set rows (size - 1) now)) same ∙ (row_set_same rows (size - 1) now (omega (arith, at.some, at.known)) ∙ is) in
          let old : row_at rows k ≡ row.items = ap (row_at rows) same ∙ here n rows from size row at in
          elim (cases_eq from start) [
            | inl at_start ↦
                ap (λ xs. get_or xs start 0) new ∙ (ap (λ i. get_or (set row.items i value) start 0) at_start
                ∙ (get_or-set_same row.items start value 0 (subst (λ i. i < length row.items) at_start (place_within n rows from size row at))
                ∙ sym (ap (λ b. cond b value (get_or (row_at rows k) start 0)) (ap (λ b. b && (size == suc k)) (eq-eqb from start at_start) ∙ eq-eqb size (suc k) e))))
            | inr elsewhere ↦
                ap (λ xs. get_or xs start 0) new ∙ (get_or-set_other row.items from start value 0 (λ h. elsewhere (sym h))
                ∙ (sym (ap (λ xs. get_or xs start 0) old)
                ∙ sym (ap (λ b. cond b value (get_or (row_at rows k) start 0)) (ap (λ b. b && (size == suc k)) (ne_eqb from start elsewhere)))))
          ]
    ]
  where
    and_false : (b : Bool) → (b && false) ≡ false
    and_false true = refl
    and_false false = refl

-- the values of the last members
pub record AreValues (n k : ℕ) (lows : List Low) (rows : List (Vec ℕ)) : Type 0 where
  pub shape : AreRows n rows
  pub each : length rows ≡ n
  pub values : (start len : ℕ) → table_in rows start len ≡ table_of (drop (length lows - k) lows) start len

pub no_values : (n : ℕ) (lows : List Low) (rows : List (Vec ℕ)) → AreRows n rows → length rows ≡ n → ((start len : ℕ) → table_in rows start len ≡ 0) → AreValues n 0 lows rows
no_values n lows rows are each zeros = record {
  shape = are;
  each = each;
  values = λ start len. zeros start len ∙ sym (ap (λ l. table_of l start len) (drop_all (length lows - 0) lows (omega arith)));
}

pub more_values : (n k : ℕ) (lows : List Low) (rows now : List (Vec ℕ)) (a : Low) → AreValues n k lows rows → k < length lows → a ≡ get_or lows (length lows - 1 - k) a
    → AreRows n now → length now ≡ n → ((start len : ℕ) → table_in now start len ≡ with_value (table_in rows) a.from (a.to - a.from) a.low start len) → AreValues n (k + 1) lows now
more_values n k lows rows now a were less is are each set = record {
  shape = are;
  each = each;
  values = λ start len.
      let next : drop (length lows - (k + 1)) lows ≡ a ∷ drop (length lows - k) lows =
      ap (λ i. drop i lows) (let e : length lows - (k + 1) ≡ length lows - 1 - k = omega arith in e)
      ∙ (drop-cons lows (length lows - 1 - k) a (omega arith)
      ∙ (ap (λ x. x ∷ drop (suc (length lows - 1 - k)) lows) (sym is) ∙ ap (λ i. a ∷ drop i lows) (let e : suc (length lows - 1 - k) ≡ length lows - k = omega arith in e))) in
      set start len ∙ (ap (cond (names a start len) a.low) (were.values start len) ∙ sym (ap (λ l. table_of l start len) next));
}
