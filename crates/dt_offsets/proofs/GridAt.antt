-- The offset that nested turns give to a copy, turn by turn.
use Rattle.std.specs.Prelude.{◌≡◌, Option, Some, None, ℕ, zero, suc, ◌+◌, ◌*◌, ◌/◌, ◌%◌, ◌^◌, ◌<◌, ℤ, pos, ◌+ℤ◌, ◌*ℤ◌, ◌≤ℤ◌, nat_abs, List, [], ◌∷◌, length, take, drop, slice_get, get_or}
use Rattle.std.specs.Option.{option_map}
use Rattle.std.proofs.Common.{sym, ap, subst, ◌∙◌, arith, inl, inr}
use Rattle.std.proofs.lemmas.Bool.{cases_lt}
use Rattle.std.proofs.lemmas.Int.{ints, clamps}
use Rattle.std.proofs.lemmas.List.{take_more}
use Rattle.std.proofs.lemmas.Option.{slice_get-map, slice_get-get_or, get_or_from_slice_get}
use Rattle.std.proofs.Math.Nat.{mod-lt, div-lt_iff_lt-mul, div-div-eq-div-mul, mul_assoc, mul_comm, mul-div_cancel_left}
use Rattle.std.proofs.Math.Seq.{drop-cons}
use Rattle.dt_offsets.specs.declared.marks.Marks.{Marks}
use Rattle.dt_offsets.specs.Offsets.{below, sums, row_offsets, turn_offset, turn_offsets, grid_offsets}
use Rattle.dt_offsets.specs.Span.{joined_marks, reach_of, point}
use Rattle.dt_offsets.specs.declared.turns.Turns.{Turns}
use Rattle.dt_offsets.specs.Near.{StayNear, IsNearSpan}
use Rattle.dt_offsets.proofs.Lookups.{sum_at, slice_get-left, slice_get-right, grid-inner}
use Rattle.dt_offsets.proofs.NearNumbers.{grid_near}
use Rattle.dt_offsets.proofs.Reaches.{length-sums, length-below, count-turns}

-- an offset lies between the ends of the span
Between : ℤ → Option Marks → Type 0
Between x None = ⊥
Between x (Some s) = (s.lb ≤ℤ x) × (x ≤ℤ s.ub)

between_first : (x : ℤ) (s : Option Marks) → Between x (joined_marks (point x) s)
unfolding Between
between_first x None = (omega (arith, ints), omega (arith, ints))
between_first x (Some s) = (omega (arith, ints, clamps), omega (arith, ints, clamps))

between_later : (x y : ℤ) (s : Option Marks) → Between x s → Between x (joined_marks (point y) s)
unfolding Between
between_later x y None h = absurd h
between_later x y (Some s) h = let a = h.0 in let b = h.1 in (omega (arith, ints, clamps), omega (arith, ints, clamps))

between : (xs : List ℤ) (k : ℕ) (d : ℤ) → k < length xs → Between (get_or xs k d) (reach_of xs)
between [] k d h = absurd (omega arith)
between (x ∷ xs) zero d h = between_first x (reach_of xs)
between (x ∷ xs) (suc k) d h = between_later (get_or xs k d) x (reach_of xs) (between xs k d (omega arith))

within_ends : (x : ℤ) (s : Option Marks) → Between x s → IsNearSpan s → nat_abs x < 2 ^ 126
unfolding Between
within_ends x None h near = absurd h
within_ends x (Some s) h near = let a = h.0 in let b = h.1 in let l = near.0 in let u = near.1 in omega (arith, ints)

pub member_near : (xs : List ℤ) (k : ℕ) (d : ℤ) → k < length xs → IsNearSpan (reach_of xs) → nat_abs (get_or xs k d) < 2 ^ 126
member_near xs k d h near = within_ends (get_or xs k d) (reach_of xs) (between xs k d h) near

pub below_at : (n q : ℕ) → q < n → slice_get (below n) q ≡ Some q
below_at zero q h = absurd (omega arith)
below_at (suc n) q h =
    let long = length-below n in
    elim (cases_lt q n) [
      | inl lt ↦ slice_get-left (below n) (n ∷ []) q (omega arith) ∙ below_at n q lt
      | inr ge ↦
          let last : q ≡ length (below n) + 0 = omega arith in
          let same : n ≡ q = omega arith in
          ap (slice_get (below (suc n))) last ∙ slice_get-right (below n) (n ∷ []) 0 ∙ ap Some same
    ]

turn_get : (t : Turns) (q : ℕ) → q < t.count → get_or (turn_offsets t) q (pos 0) ≡ turn_offset t q
turn_get t q h =
    get_or_from_slice_get (turn_offsets t) q (turn_offset t q) (pos 0) (slice_get-map (turn_offset t) (below t.count) q ∙ ap (option_map (turn_offset t)) (below_at t.count q h))

sum_get : (xs ys : List ℤ) (k : ℕ) → k < length xs * length ys → 0 < length ys
    → get_or (sums xs ys) k (pos 0) ≡ get_or xs (k / length ys) (pos 0) +ℤ get_or ys (k % length ys) (pos 0)
sum_get xs ys k h some =
    get_or_from_slice_get (sums xs ys) k (get_or xs (k / length ys) (pos 0) +ℤ get_or ys (k % length ys) (pos 0)) (pos 0)
    (sum_at xs ys k h ∙ ap (option_map (λ y. get_or xs (k / length ys) (pos 0) +ℤ y)) (slice_get-get_or ys (k % length ys) (pos 0) (mod-lt k some)))

count : List Turns → ℕ
count turns = length (grid_offsets turns)

count-more : (t : Turns) (turns : List Turns) → count (t ∷ turns) ≡ t.count * count turns
unfolding count
count-more t turns = length-sums (turn_offsets t) (grid_offsets turns) ∙ ap (λ n. n * length (grid_offsets turns)) (count-turns t)

count-split : (turns : List Turns) (i : ℕ) → count turns ≡ count (take i turns) * count (drop i turns)
unfolding count
count-split [] zero = omega arith
count-split [] (suc i) = omega arith
count-split (t ∷ turns) zero = omega arith
count-split (t ∷ turns) (suc i) =
    count-more t turns ∙ ap (λ n. t.count * n) (count-split turns i) ∙ sym (mul_assoc t.count (count (take i turns)) (count (drop i turns)))
    ∙ ap (λ n. n * count (drop i turns)) (sym (count-more t (take i turns)))

pos_left : (a b : ℕ) → 0 < a * b → 0 < a
pos_left zero b h = let none : zero * b ≡ 0 = omega arith in absurd (omega arith)
pos_left (suc a) b h = omega arith

pub pos_right : (a b : ℕ) → 0 < a * b → 0 < b
pos_right a zero h = let none : a * zero ≡ 0 = omega arith in absurd (omega arith)
pos_right a (suc b) h = omega arith

-- what holds of the i-th turns, where left copies are to come of each turn before them
module _ (ts : List Turns) (i : ℕ) (d : Turns) (copy left : ℕ) (lt : i < length ts) (inside : copy < length (grid_offsets ts)) (is : left ≡ length (grid_offsets (drop i ts))) where
  abbrev here : Turns
  here = get_or ts i d

  abbrev rest : ℕ
  rest = length (grid_offsets (drop (i + 1) ts))

  abbrev before : ℕ
  before = length (grid_offsets (take i ts))

  splits : length (grid_offsets ts) ≡ before * left
  unfolding count
  splits = count-split ts i ∙ ap (λ n. before * n) (sym is)

  left_is : left ≡ here.count * rest
  unfolding count
  left_is =
      let next : suc i ≡ i + 1 = omega arith in
      is ∙ ap (λ us. length (grid_offsets us)) (drop-cons ts i d lt) ∙ count-more here (drop (suc i) ts) ∙ ap (λ k. here.count * length (grid_offsets (drop k ts))) next

  pub left_some : 0 < left
  left_some = let e = splits in pos_right before left (omega arith)

  pub count_some : 0 < here.count
  count_some = let e = left_is in let h = left_some in pos_left here.count rest (omega arith)

  rest_some : 0 < rest
  rest_some = let e = left_is in let h = left_some in pos_right here.count rest (omega arith)

  pub divided : left / here.count ≡ rest
  divided = ap (λ n. n / here.count) left_is ∙ mul-div_cancel_left rest count_some

  pub divided_some : 0 < left / here.count
  divided_some = let e = divided in let h = rest_some in omega arith

  place : copy / rest < before * here.count
  place =
      let whole : length (grid_offsets ts) ≡ (before * here.count) * rest = splits ∙ ap (λ n. before * n) left_is ∙ sym (mul_assoc before here.count rest) in
      (div-lt_iff_lt-mul rest_some).1 (omega arith)

  next_grid : grid_offsets (take (i + 1) ts) ≡ sums (grid_offsets (take i ts)) (turn_offsets here)
  next_grid = ap grid_offsets (take_more ts i d lt) ∙ grid-inner (take i ts) here

  next_value : get_or (grid_offsets (take (i + 1) ts)) (copy / rest) (pos 0) ≡ get_or (grid_offsets (take i ts)) (copy / left) (pos 0) +ℤ turn_offset here (copy / rest % here.count)
  next_value =
      let counts = count-turns here in
      let some = count_some in
      let room : copy / rest < before * length (turn_offsets here) = subst (λ n. copy / rest < before * n) (sym counts) place in
      let back : copy / rest / here.count ≡ copy / left = div-div-eq-div-mul copy rest here.count ∙ ap (λ n. copy / n) (mul_comm rest here.count ∙ sym left_is) in
      ap (λ xs. get_or xs (copy / rest) (pos 0)) next_grid
      ∙ sum_get (grid_offsets (take i ts)) (turn_offsets here) (copy / rest) room (omega arith)
      ∙ ap (λ n. get_or (grid_offsets (take i ts)) (copy / rest / n) (pos 0) +ℤ get_or (turn_offsets here) (copy / rest % n) (pos 0)) counts
      ∙ ap (λ n. get_or (grid_offsets (take i ts)) n (pos 0) +ℤ get_or (turn_offsets here) (copy / rest % here.count) (pos 0)) back
      ∙ ap (λ x. get_or (grid_offsets (take i ts)) (copy / left) (pos 0) +ℤ x) (turn_get here (copy / rest % here.count) (mod-lt (copy / rest) some))

  pub next : get_or (grid_offsets (take (i + 1) ts)) (copy / (left / here.count)) (pos 0) ≡ get_or (grid_offsets (take i ts)) (copy / left) (pos 0) +ℤ turn_offset here (copy / (left / here.count) % here.count)
  next = subst (λ n. get_or (grid_offsets (take (i + 1) ts)) (copy / n) (pos 0) ≡ get_or (grid_offsets (take i ts)) (copy / left) (pos 0) +ℤ turn_offset here (copy / n % here.count)) (sym divided) next_value

  pub next_fits : StayNear ts
      → nat_abs (get_or (grid_offsets (take i ts)) (copy / left) (pos 0) +ℤ turn_offset here (copy / (left / here.count) % here.count)) < 2 ^ 126
  next_fits near =
      let counts = count-turns here in
      let long : length (grid_offsets (take (i + 1) ts)) ≡ before * here.count = ap length next_grid ∙ length-sums (grid_offsets (take i ts)) (turn_offsets here) ∙ ap (λ n. before * n) counts in
      let where_at : copy / (left / here.count) < length (grid_offsets (take (i + 1) ts)) = subst (λ n. copy / n < length (grid_offsets (take (i + 1) ts))) (sym divided) (let p = place in omega arith) in
      subst (λ x. nat_abs x < 2 ^ 126) next (member_near (grid_offsets (take (i + 1) ts)) (copy / (left / here.count)) (pos 0) where_at (grid_near ts near (i + 1)))

pub row_at : (first step : ℤ) (n k : ℕ) → k < n → slice_get (row_offsets first n step) k ≡ Some (first +ℤ (pos k *ℤ step))
row_at first step n k h =
    slice_get-map (λ j. first +ℤ (pos j *ℤ step)) (below n) k ∙ ap (option_map (λ j. first +ℤ (pos j *ℤ step))) (below_at n k h)
