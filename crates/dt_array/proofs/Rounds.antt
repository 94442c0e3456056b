-- The indices that one process holds of a dimension that is dealt out in blocks, one round after another.
use Rattle.std.specs.Prelude.{◌≡◌, ℕ, zero, suc, ◌+◌, ◌-◌, ◌*◌, ◌/◌, ◌%◌, ◌==◌, ◌<◌, ◌≤◌, min, Bool, true, false, cond, List, [], ◌∷◌, ◌++◌, map}
use Rattle.std.specs.List.{filter, flat_map}
use Rattle.std.proofs.Common.{refl, sym, ap, subst, ◌∙◌, arith, inl, inr}
use Rattle.std.proofs.lemmas.Bool.{cases_lt, eq-eqb, ne_eqb}
use Rattle.std.proofs.lemmas.List.{map-append, append-nil}
use Rattle.std.proofs.lemmas.List.Elements.{filter-append}
use Rattle.std.proofs.lemmas.Nat.{div-add-mod', mod-mul-add}
use Rattle.std.proofs.Math.Nat.{mul_assoc, mul-le-mul_right, mul-add-div_right, div-lt_iff_lt-mul, div-eq_of_lt-le, div-mul-le_self, lt-div-mul-add, mod-lt}
use Rattle.dt_offsets.specs.Offsets.{below}
use Rattle.dt_offsets.proofs.Rows.{in_rows_of}
use Rattle.dt_array.proofs.Lists.{same_map, same_flat_map, map-same}

filter-flat_map : {X Y : Type 0} (test : Y → Bool) (f : X → List Y) (xs : List X) → filter test (flat_map f xs) ≡ flat_map (λ x. filter test (f x)) xs
filter-flat_map test f [] = refl
filter-flat_map test f (x ∷ xs) = filter-append test (f x) (flat_map f xs) ∙ ap (λ ys. filter test (f x) ++ ys) (filter-flat_map test f xs)

none_more : {X : Type 0} (test : X → Bool) (xs : List X) (x : X) → test x ≡ false → filter test (xs ++ x ∷ []) ≡ filter test xs
none_more test xs x e = filter-append test xs (x ∷ []) ∙ ap (λ b. filter test xs ++ cond b (x ∷ []) []) e ∙ append-nil (filter test xs)

one_more : {X : Type 0} (test : X → Bool) (xs : List X) (x : X) → test x ≡ true → filter test (xs ++ x ∷ []) ≡ filter test xs ++ x ∷ []
one_more test xs x e = filter-append test xs (x ∷ []) ∙ ap (λ b. filter test xs ++ cond b (x ∷ []) []) e

-- processes 0 to procs - 1 take a block each, and then once more
module _ (block procs r : ℕ) (some : 1 ≤ block) (one : r < procs) where
  abbrev round : ℕ
  round = procs * block

  abbrev is_held : ℕ → Bool
  is_held g = (g / block) % procs == r

  -- how many of the first indices of a round are held
  abbrev held_of : ℕ → ℕ
  held_of left = min (left - r * block) block

  abbrev at : ℕ → ℕ → ℕ
  at i j = i * round + j

  abbrev in_turn : ℕ → ℕ → ℕ
  in_turn i j = i * round + (r * block + j)

  block_place : (i k : ℕ) → k < round → (at i k / block) % procs ≡ k / block
  block_place i k lt =
      let positive : 0 < block = omega arith in
      let inside : k / block < procs = (div-lt_iff_lt-mul positive).1 lt in
      ap (λ n. ((n + k) / block) % procs) (sym (mul_assoc i procs block))
      ∙ ap (λ n. n % procs) (mul-add-div_right positive (i * procs) k)
      ∙ mod-mul-add i procs (k / block) inside

  held_here : (i k : ℕ) → k < round → r * block ≤ k → k < r * block + block → is_held (at i k) ≡ true
  held_here i k lt low high =
      let above : k < (r + 1) * block = omega arith in
      eq-eqb _ r (block_place i k lt ∙ div-eq_of_lt-le block low above)

  not_before : (i k : ℕ) → k < round → k < r * block → is_held (at i k) ≡ false
  not_before i k lt low =
      ne_eqb _ r (λ e.
      let same : k / block ≡ r = sym (block_place i k lt) ∙ e in
      let reached : r * block ≤ k = subst (λ n. n * block ≤ k) same (div-mul-le_self k block) in
      absurd (omega arith))

  not_behind : (i k : ℕ) → k < round → r * block + block ≤ k → is_held (at i k) ≡ false
  not_behind i k lt high =
      ne_eqb _ r (λ e.
      let positive : 0 < block = omega arith in
      let same : k / block ≡ r = sym (block_place i k lt) ∙ e in
      let passed : k < r * block + block = subst (λ n. k < n * block + block) same (lt-div-mul-add positive) in
      absurd (omega arith))

  in_round : (i k : ℕ) → k ≤ round → filter is_held (map (at i) (below k)) ≡ map (in_turn i) (below (held_of k))
  in_round i zero le = let none : held_of zero ≡ 0 = omega arith in sym (ap (λ n. map (in_turn i) (below n)) none)
  in_round i (suc k) le =
      let before = in_round i k (omega arith) in
      ap (filter is_held) (map-append (at i) (below k) (k ∷ []))
      ∙ elim (cases_lt k (r * block)) [
        | inl low ↦
            let same : held_of (suc k) ≡ held_of k = omega arith in
            none_more is_held (map (at i) (below k)) (at i k) (not_before i k (omega arith) low) ∙ before ∙ sym (ap (λ n. map (in_turn i) (below n)) same)
        | inr from ↦ elim (cases_lt k (r * block + block)) [
          | inl to ↦
              let more : held_of (suc k) ≡ suc (held_of k) = omega arith in
              let last : at i k ≡ in_turn i (held_of k) = omega arith in
              one_more is_held (map (at i) (below k)) (at i k) (held_here i k (omega arith) from to)
              ∙ ap (λ ns. ns ++ at i k ∷ []) before
              ∙ ap (λ n. map (in_turn i) (below (held_of k)) ++ n ∷ []) last
              ∙ sym (map-append (in_turn i) (below (held_of k)) (held_of k ∷ []))
              ∙ sym (ap (λ n. map (in_turn i) (below n)) more)
          | inr high ↦
              let same : held_of (suc k) ≡ held_of k = omega arith in
              none_more is_held (map (at i) (below k)) (at i k) (not_behind i k (omega arith) high) ∙ before ∙ sym (ap (λ n. map (in_turn i) (below n)) same)
        ]
      ]

  whole_round : held_of round ≡ block
  whole_round = let fits : suc r * block ≤ procs * block = mul-le-mul_right block one in omega arith

  -- the index q of those that are held
  abbrev pub held_at : ℕ → ℕ
  held_at q = (r * block + q / block * round) + q % block

  -- one block in each whole round, and what is left of the last
  pub in_rounds : (n : ℕ) → filter is_held (below n) ≡ map held_at (below (n / round * block + held_of (n % round)))
  in_rounds n =
      let rounds = n / round in
      let left = n % round in
      let positive : 0 < round = let least : suc r * block ≤ procs * block = mul-le-mul_right block one in omega arith in
      let inside : left < round = mod-lt n positive in
      let from : ℕ → ℕ → ℕ = λ i j. (r * block + i * round) + j in
      let split : below n ≡ flat_map (λ i. map (at i) (below round)) (below rounds) ++ map (at rounds) (below left) =
      sym (map-same (λ q. q / round * round + q % round) (λ q. div-add-mod' q round) (below n))
      ∙ ap (λ k. map (λ q. at (q / round) (q % round)) (below k)) (sym (div-add-mod' n round))
      ∙ in_rows_of at round rounds left (omega arith) in
      let turned : (i j : ℕ) → in_turn i j ≡ from i j = λ i j. omega arith in
      let whole : (i : ℕ) → filter is_held (map (at i) (below round)) ≡ map (from i) (below block) =
      λ i. in_round i round (omega arith) ∙ ap (λ k. map (in_turn i) (below k)) whole_round ∙ same_map _ _ (turned i) (below block) in
      ap (filter is_held) split
      ∙ filter-append is_held (flat_map (λ i. map (at i) (below round)) (below rounds)) (map (at rounds) (below left))
      ∙ ap (λ ns. ns ++ filter is_held (map (at rounds) (below left)))
      (filter-flat_map is_held (λ i. map (at i) (below round)) (below rounds) ∙ same_flat_map _ _ whole (below rounds))
      ∙ ap (λ ns. flat_map (λ i. map (from i) (below block)) (below rounds) ++ ns) (in_round rounds left (omega arith) ∙ same_map _ _ (turned rounds) (below (held_of left)))
      ∙ sym (in_rows_of from block rounds (held_of left) (omega arith))
