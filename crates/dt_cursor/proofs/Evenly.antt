-- Offsets that lie evenly.
use Rattle.std.specs.Prelude.{◌≡◌, ℕ, zero, suc, ◌+◌, ◌-◌, ◌*◌, ◌/◌, ◌%◌, ◌<◌, ◌≤◌, min, ℤ, ◌+ℤ◌, ◌*ℤ◌, pos, List, [], ◌∷◌, ◌++◌, map}
use Rattle.std.specs.List.{flat_map}
use Rattle.std.proofs.Common.{refl, sym, ap, subst, ◌∙◌, arith, inl, inr, append-nil}
use Rattle.std.proofs.Math.IntN.{suc_ℤ-*ℤ, zero-*ℤ}
use Rattle.std.proofs.Math.Nat.{div-lt_iff_lt-mul, eq-or-lt_of_le, le-div_iff_mul-le, mod-lt, mul-le-mul_left, mul-le-mul_right}
use Rattle.std.proofs.lemmas.Int.{ints}
use Rattle.std.proofs.lemmas.List.{map-append}
use Rattle.std.proofs.lemmas.Nat.{div-add-mod'}
use Rattle.dt_cursor.specs.declared.level.Rest.{Rest}
use Rattle.dt_cursor.specs.Spread.{AreLeft, IsRestOf, LieEvenly, spread}
use Rattle.dt_kinds.specs.declared.kind.Kind.{Kind}
use Rattle.dt_layout.proofs.Steps.{at_place}
use Rattle.dt_map.specs.declared.entry.Entry.{Entry}
use Rattle.dt_offsets.specs.declared.turns.Spot.{Spot}
use Rattle.dt_offsets.specs.declared.turns.Turns.{Turns}
use Rattle.dt_offsets.specs.Offsets.{below, row_offsets, turn_offset}
use Rattle.dt_offsets.proofs.Rows.{in_rows_of, rows}
use Rattle.dt_rows.specs.Rows.{element_at}

-- the elements at offsets that lie evenly, by their numbers
module _ (kind : Kind) (x : ℤ) (offset : ℕ → ℤ) (from : ℕ) where
  abbrev pub here : ℕ → Entry
  here j = element_at kind (x +ℤ offset (from + j))

  map_below : {A : Type 0} (f g : ℕ → A) (n : ℕ) → ((q : ℕ) → q < n → f q ≡ g q) → map f (below n) ≡ map g (below n)
  map_below f g zero same = refl
  map_below f g (suc n) same =
      map-append f (below n) (n ∷ []) ∙ ap (λ s. s ++ f n ∷ []) (map_below f g n (λ q lt. same q (omega (arith, lt))))
      ∙ ap (λ a. map g (below n) ++ a ∷ []) (same n (omega arith)) ∙ sym (map-append g (below n) (n ∷ []))

  map_twice : {A B : Type 0} (f : A → B) (g : ℕ → A) (is : List ℕ) → map f (map g is) ≡ map (λ i. f (g i)) is
  map_twice f g [] = refl
  map_twice f g (i ∷ is) = ap (λ s. f (g i) ∷ s) (map_twice f g is)

  abbrev place : ℤ → ℤ → ℕ → ℕ → Entry
  place jump step i k = element_at kind (((x +ℤ offset from) +ℤ (pos i *ℤ jump)) +ℤ (pos k *ℤ step))

  rows_are : (jump step : ℤ) (n : ℕ) (is : List ℕ)
      → flat_map (λ y. map (element_at kind) (row_offsets y n step)) (map (λ i. (x +ℤ offset from) +ℤ (pos i *ℤ jump)) is) ≡ flat_map (λ i. map (place jump step i) (below n)) is
  rows_are jump step n [] = refl
  rows_are jump step n (i ∷ is) =
      let y = (x +ℤ offset from) +ℤ (pos i *ℤ jump) in
      ap (λ s. s ++ flat_map (λ z. map (element_at kind) (row_offsets z n step)) (map (λ j. (x +ℤ offset from) +ℤ (pos j *ℤ jump)) is)) (map_twice (element_at kind) (λ k. y +ℤ (pos k *ℤ step)) (below n))
      ∙ ap (λ s. map (place jump step i) (below n) ++ s) (rows_are jump step n is)

  pub spread_is : (m : ℕ) (jump : ℤ) (n : ℕ) (step : ℤ) → 0 < n → LieEvenly offset from m jump n step → spread kind (x +ℤ offset from) m jump n step ≡ map here (below (m * n))
  spread_is m jump n step some even =
      let f = place jump step in
      let all : m * n + 0 ≡ m * n = omega arith in
      rows_are jump step n (below m) ∙ sym (append-nil (rows f n m)) ∙ sym (in_rows_of f n m 0 (omega arith)) ∙ ap (λ k. map (λ q. f (q / n) (q % n)) (below k)) all
      ∙ map_below (λ q. f (q / n) (q % n)) here (m * n) (λ q less.
      let row : q / n < m = (div-lt_iff_lt-mul some).1 less in
      let within : q % n < n = mod-lt q some in
      let parts = div-add-mod' q n in
      ap (element_at kind) (grouped x (offset from) (pos (q / n) *ℤ jump) (pos (q % n) *ℤ step) ∙ ap (λ y. x +ℤ y) (sym (even (q / n) (q % n) row within)) ∙ ap (λ k. x +ℤ offset (from + k)) parts))
    where
      grouped : (a b c d : ℤ) → ((a +ℤ b) +ℤ c) +ℤ d ≡ a +ℤ ((b +ℤ c) +ℤ d)
      grouped a b c d = omega (arith, ints)

times_sum : (a b : ℕ) (c : ℤ) → pos (a + b) *ℤ c ≡ (pos a *ℤ c) +ℤ (pos b *ℤ c)
times_sum zero b c =
    let none : 0 + b ≡ b = omega arith in
    ap (λ k. pos k *ℤ c) none ∙ alone (pos b *ℤ c) ∙ ap (λ y. y +ℤ (pos b *ℤ c)) (sym (zero-*ℤ c))
  where
    alone : (y : ℤ) → y ≡ pos 0 +ℤ y
    alone y = omega (arith, ints)
times_sum (suc a) b c =
    let next : suc a + b ≡ suc (a + b) = omega arith in
    ap (λ k. pos k *ℤ c) next ∙ suc_ℤ-*ℤ (pos (a + b)) c ∙ ap (λ y. y +ℤ c) (times_sum a b c)
    ∙ turned (pos a *ℤ c) (pos b *ℤ c) c ∙ ap (λ y. y +ℤ (pos b *ℤ c)) (sym (suc_ℤ-*ℤ (pos a) c))
  where
    turned : (x y z : ℤ) → (x +ℤ y) +ℤ z ≡ (x +ℤ z) +ℤ y
    turned x y z = omega (arith, ints)

-- turns of one block lie evenly, and so do whole blocks
module _ (t : Turns) (q : ℕ) (some : 0 < t.block) where
  in_block : (n : ℕ) → q % t.block + n ≤ t.block → LieEvenly (turn_offset t) q 1 t.jump n t.step
  in_block n within i k row less =
      let none : i ≡ 0 = omega (arith, row) in
      let parts = div-add-mod' q t.block in
      let nothing : 0 * n ≡ 0 = omega arith in
      let there : q + (i * n + k) ≡ q / t.block * t.block + (q % t.block + k) = omega (arith, parts, ap (λ j. j * n) none, nothing) in
      at_place t (q + (i * n + k)) (q / t.block) (q % t.block + k) there (omega (arith, within, less))
      ∙ ap (λ y. (t.first +ℤ (pos (q / t.block) *ℤ t.jump)) +ℤ y) (times_sum (q % t.block) k t.step)
      ∙ grouped (t.first +ℤ (pos (q / t.block) *ℤ t.jump)) (pos (q % t.block) *ℤ t.step) (pos k *ℤ t.step)
      ∙ ap (λ y. ((turn_offset t q) +ℤ y) +ℤ (pos k *ℤ t.step)) (sym (ap (λ j. pos j *ℤ t.jump) none ∙ zero-*ℤ t.jump))
    where
      grouped : (a b c : ℤ) → a +ℤ (b +ℤ c) ≡ ((a +ℤ b) +ℤ pos 0) +ℤ c
      grouped a b c = omega (arith, ints)

  whole_blocks : (m : ℕ) → q % t.block ≡ 0 → LieEvenly (turn_offset t) q m t.jump t.block t.step
  whole_blocks m begins i k row less =
      let parts = div-add-mod' q t.block in
      let there : q + (i * t.block + k) ≡ (q / t.block + i) * t.block + k = omega (arith, parts, begins) in
      at_place t (q + (i * t.block + k)) (q / t.block + i) k there less
      ∙ ap (λ y. (t.first +ℤ y) +ℤ (pos k *ℤ t.step)) (times_sum (q / t.block) i t.jump)
      ∙ grouped t.first (pos (q / t.block) *ℤ t.jump) (pos i *ℤ t.jump) (pos k *ℤ t.step)
      ∙ ap (λ y. (((t.first +ℤ (pos (q / t.block) *ℤ t.jump)) +ℤ y) +ℤ (pos i *ℤ t.jump)) +ℤ (pos k *ℤ t.step)) (sym (ap (λ j. pos j *ℤ t.step) begins ∙ zero-*ℤ t.step))
    where
      grouped : (a b c d : ℤ) → (a +ℤ (b +ℤ c)) +ℤ d ≡ (((a +ℤ b) +ℤ pos 0) +ℤ c) +ℤ d
      grouped a b c d = omega (arith, ints)

one_row : (rows elements : ℕ) (r : Rest) → AreLeft r rows elements → r.rows ≡ 1 → rows ≡ 1
one_row rows elements r left single = let some = left.some_rows in let most = left.most_rows in omega (arith, some, most, single)

-- from within a block on: the rest of it
pub rest_in_block : (t : Turns) (q : ℕ) → 0 < t.block → q < t.count → (r : Rest) → r.row ≡ min (t.count - q) (t.block - q % t.block) → r.rows ≡ 1 → r.jump ≡ t.jump → r.step ≡ t.step → IsRestOf (turn_offset t) q t.count r
rest_in_block t q some within r row single jump step =
    let inside = mod-lt q some in
    record {
      some_rows = omega (arith, single);
      some = omega (arith, row, within, inside);
      within = λ rows elements left.
          let most = left.most in
          let all : rows * elements ≡ elements = ap (λ k. k * elements) (one_row rows elements r left single) ∙ omega arith in
          omega (arith, most, all, row, within);
      even = λ rows elements left.
          let most = left.most in
          subst (λ k. LieEvenly (turn_offset t) q k r.jump elements r.step) (sym (one_row rows elements r left single))
          (subst (λ y. LieEvenly (turn_offset t) q 1 y elements r.step) (sym jump) (subst (λ y. LieEvenly (turn_offset t) q 1 t.jump elements y) (sym step)
          (in_block t q some elements (omega (arith, most, row, inside)))));
    }

-- from the beginning of a block on: it and the whole blocks after it
pub rest_of_blocks : (t : Turns) (q : ℕ) → 0 < t.block → q % t.block ≡ 0 → t.block ≤ t.count - q → (r : Rest) → r.row ≡ t.block → r.rows ≡ (t.count - q) / t.block → r.jump ≡ t.jump → r.step ≡ t.step → IsRestOf (turn_offset t) q t.count r
rest_of_blocks t q some begins whole r row blocks jump step =
    let parts = div-add-mod' (t.count - q) t.block in
    let left_over = mod-lt (t.count - q) some in
    record {
      some_rows = at_least_one (t.count - q) (t.block) r.rows some whole blocks;
      some = omega (arith, row, some);
      within = λ rows elements left.
          let most = left.most in
          let most_rows = left.most_rows in
          let fewer : rows * elements ≤ rows * r.row = mul-le-mul_left rows most in
          let all : rows * r.row ≤ r.rows * r.row = mul-le-mul_right r.row most_rows in
          let count : r.rows * r.row ≡ (t.count - q) / t.block * t.block = ap (λ k. k * r.row) blocks ∙ ap (λ k. (t.count - q) / t.block * k) row in
          omega (arith, fewer, all, count, parts, whole, some);
      even = λ rows elements left.
          subst (λ y. LieEvenly (turn_offset t) q rows y elements r.step) (sym jump) (subst (λ y. LieEvenly (turn_offset t) q rows t.jump elements y) (sym step)
          (even_blocks rows elements left));
    }
  where
    at_least_one : (n b k : ℕ) → 0 < b → b ≤ n → k ≡ n / b → 0 < k
    at_least_one n b k pos_b le is =
        let single : 1 * b ≡ b = omega arith in
        let least : 1 ≤ n / b = (le-div_iff_mul-le pos_b).1 (omega (arith, le, single)) in
        omega (arith, is, least)

    even_blocks : (rows elements : ℕ) → AreLeft r rows elements → LieEvenly (turn_offset t) q rows t.jump elements t.step
    even_blocks rows elements left =
        let some_rows = left.some_rows in
        elim (eq-or-lt_of_le some_rows) [
          | inl single ↦
              let most = left.most in
              subst (λ k. LieEvenly (turn_offset t) q k t.jump elements t.step) single (in_block t q some elements (omega (arith, most, row, begins)))
          | inr more ↦ subst (λ n. LieEvenly (turn_offset t) q rows t.jump n t.step) (sym (left.whole more ∙ row)) (whole_blocks t q some rows begins)
        ]

-- the copies of a spot that are left
pub rest_of_copies : (s : Spot) (j : ℕ) → j < s.copies → (r : Rest) → r.row ≡ s.copies - j → r.rows ≡ 1 → r.step ≡ s.step → IsRestOf (λ k. s.first +ℤ (pos k *ℤ s.step)) j s.copies r
rest_of_copies s j within r row single step = record {
  some_rows = omega (arith, single);
  some = omega (arith, row, within);
  within = λ rows elements left.
      let most = left.most in
      let all : rows * elements ≡ elements = ap (λ k. k * elements) (one_row rows elements r left single) ∙ omega arith in
      omega (arith, most, all, row, within);
  even = λ rows elements left i k in_rows less.
      let none : i ≡ 0 = (let rows_one = one_row rows elements r left single in omega (arith, in_rows, rows_one)) in
      let nothing : 0 * elements ≡ 0 = omega arith in
      let there : j + (i * elements + k) ≡ j + k = omega (arith, ap (λ n. n * elements) none, nothing) in
      ap (λ n. s.first +ℤ (pos n *ℤ s.step)) there
      ∙ ap (λ y. s.first +ℤ y) (times_sum j k s.step)
      ∙ grouped s.first (pos j *ℤ s.step) (pos k *ℤ s.step)
      ∙ ap (λ y. ((s.first +ℤ (pos j *ℤ s.step)) +ℤ y) +ℤ (pos k *ℤ s.step)) (sym (ap (λ n. pos n *ℤ r.jump) none ∙ zero-*ℤ r.jump))
      ∙ ap (λ y. ((s.first +ℤ (pos j *ℤ s.step)) +ℤ (pos i *ℤ r.jump)) +ℤ (pos k *ℤ y)) (sym step);
}
  where
    grouped : (a b c : ℤ) → a +ℤ (b +ℤ c) ≡ ((a +ℤ b) +ℤ pos 0) +ℤ c
    grouped a b c = omega (arith, ints)
