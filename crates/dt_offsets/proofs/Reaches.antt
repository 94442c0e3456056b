-- The reach of joined lists of offsets and of their sums.
use Rattle.std.specs.Prelude.{◌≡◌, Option, Some, None, ℕ, zero, suc, ◌+◌, ◌*◌, ◌-◌, ◌^◌, ◌<◌, ◌≤◌, ℤ, pos, ◌+ℤ◌, ◌*ℤ◌, List, [], ◌∷◌, ◌++◌, map, length, take, get_or}
use Rattle.std.proofs.Common.{refl, sym, ap, ◌∙◌, arith, inl, inr, length-append}
use Rattle.std.proofs.lemmas.Bool.{cases_lt}
use Rattle.std.proofs.lemmas.Int.{ints}
use Rattle.std.proofs.lemmas.Grind.{flat_map-append}
use Rattle.std.proofs.lemmas.List.{length-map, append-nil, take_more}
use Rattle.std.proofs.Math.Nat.{mul-le-mul_left, mul_comm, mul_assoc}
use Rattle.dt_offsets.specs.declared.marks.Marks.{Marks}
use Rattle.dt_offsets.specs.Offsets.{below, sums, row_offsets, turn_offset, turn_offsets, grid_offsets, spot_offsets}
use Rattle.dt_offsets.specs.Span.{point, reach_of, stretched}
use Rattle.dt_offsets.proofs.Spans.{reach_of_sums, both, spans-append}
use Rattle.dt_offsets.specs.declared.turns.Spot.{Spot}
use Rattle.dt_offsets.specs.declared.turns.Turns.{Turns}
use Rattle.dt_offsets.specs.declared.reach.Reach.{Reach}
use Rattle.dt_offsets.specs.Reach.{capped, reach, beside, summed}

abbrev most : ℕ
most = 2 ^ 64 - 1

pub capped-add : (a b : ℕ) → capped (capped a + capped b) ≡ capped (a + b)
capped-add a b = omega arith

pub below_most : (n : ℕ) → n ≤ most → capped n ≡ n
below_most n h = omega arith

above_most : (n : ℕ) → most ≤ n → capped n ≡ most
above_most n h = omega arith

pub capped-mul : (a n : ℕ) → capped (a * capped n) ≡ capped (a * n)
capped-mul zero n = let x : zero * capped n ≡ 0 = omega arith in let y : zero * n ≡ 0 = omega arith in ap capped (x ∙ sym y)
capped-mul (suc a) n =
    elim (cases_lt n most) [
      | inl h ↦ ap (λ k. capped (suc a * k)) (below_most n (omega arith))
      | inr h ↦
          let great : suc a * most ≤ suc a * n = mul-le-mul_left (suc a) h in
          let least : most ≤ suc a * most = omega arith in
          ap (λ k. capped (suc a * k)) (above_most n h) ∙ above_most (suc a * most) least ∙ sym (above_most (suc a * n) (omega arith))
    ]

pub capped-mul-left : (a n : ℕ) → capped (capped a * n) ≡ capped (a * n)
capped-mul-left a n = ap capped (mul_comm (capped a) n) ∙ capped-mul n a ∙ ap capped (mul_comm n a)

reach_same : (a b : ℕ) (s t : Option Marks) → a ≡ b → s ≡ t → (let r : Reach = record { copies = a; span = s } in r) ≡ (let r : Reach = record { copies = b; span = t } in r)
reach_same a b s t e f = ap (λ x. let r : Reach = record { copies = x; span = s } in r) e ∙ ap (λ x. let r : Reach = record { copies = b; span = x } in r) f

pub reach-append : (xs ys : List ℤ) → reach (xs ++ ys) ≡ beside (reach xs) (reach ys)
reach-append xs ys = reach_same _ _ _ _ (ap capped (length-append xs ys) ∙ sym (capped-add (length xs) (length ys))) (spans-append point xs ys)

pub length-sums : (xs ys : List ℤ) → length (sums xs ys) ≡ length xs * length ys
length-sums [] ys = omega arith
length-sums (x ∷ xs) ys =
    let more = length-append (map (λ y. x +ℤ y) ys) (sums xs ys) in
    let one = length-map ys (λ y. x +ℤ y) in
    let rest = length-sums xs ys in
    omega arith

pub reach-sums : (xs ys : List ℤ) → reach (sums xs ys) ≡ summed (reach xs) (reach ys)
reach-sums xs ys =
    reach_same _ _ _ _
    (ap capped (length-sums xs ys) ∙ sym (capped-mul-left (length xs) (length ys)) ∙ sym (capped-mul (capped (length xs)) (length ys)))
    (reach_of_sums xs ys)

stretched-comm : (a b : Option Marks) → stretched a b ≡ stretched b a
stretched-comm None None = refl
stretched-comm None (Some b) = refl
stretched-comm (Some a) None = refl
stretched-comm (Some a) (Some b) = both _ _ _ _ (omega (arith, ints)) (omega (arith, ints))

stretched-assoc : (a b c : Option Marks) → stretched a (stretched b c) ≡ stretched (stretched a b) c
stretched-assoc None b c = refl
stretched-assoc (Some a) None c = refl
stretched-assoc (Some a) (Some b) None = refl
stretched-assoc (Some a) (Some b) (Some c) = both _ _ _ _ (omega (arith, ints)) (omega (arith, ints))

summed-comm : (a b : Reach) → summed a b ≡ summed b a
summed-comm a b = reach_same _ _ _ _ (ap capped (mul_comm a.copies b.copies)) (stretched-comm a.span b.span)

summed-assoc : (a b c : Reach) → summed a (summed b c) ≡ summed (summed a b) c
summed-assoc a b c =
    reach_same _ _ _ _
    (capped-mul a.copies (b.copies * c.copies) ∙ ap capped (sym (mul_assoc a.copies b.copies c.copies)) ∙ sym (capped-mul-left (a.copies * b.copies) c.copies))
    (stretched-assoc a.span b.span c.span)

-- one more dimension, innermost
pub grid-more : (turns : List Turns) (t : Turns) → reach (grid_offsets (turns ++ t ∷ [])) ≡ summed (reach (grid_offsets turns)) (reach (turn_offsets t))
grid-more [] t = reach-sums (turn_offsets t) (pos 0 ∷ []) ∙ summed-comm (reach (turn_offsets t)) (reach (pos 0 ∷ []))
grid-more (u ∷ turns) t =
    reach-sums (turn_offsets u) (grid_offsets (turns ++ t ∷ []))
    ∙ ap (summed (reach (turn_offsets u))) (grid-more turns t)
    ∙ summed-assoc (reach (turn_offsets u)) (reach (grid_offsets turns)) (reach (turn_offsets t))
    ∙ ap (λ r. summed r (reach (turn_offsets t))) (sym (reach-sums (turn_offsets u) (grid_offsets turns)))

pub length-below : (n : ℕ) → length (below n) ≡ n
length-below zero = refl
length-below (suc n) = let more = length-append (below n) (n ∷ []) in let rest = length-below n in omega arith

pub count-turns : (t : Turns) → length (turn_offsets t) ≡ t.count
count-turns t = length-map (below t.count) (turn_offset t) ∙ length-below t.count

pub count-row : (first step : ℤ) (n : ℕ) → length (row_offsets first n step) ≡ n
count-row first step n = length-map (below n) (λ j. first +ℤ (pos j *ℤ step)) ∙ length-below n

-- one more spot
pub spots-more : (spots : List Spot) (s : Spot) → reach (spot_offsets (spots ++ s ∷ [])) ≡ beside (reach (spot_offsets spots)) (reach (row_offsets s.first s.copies s.step))
spots-more spots s =
    ap reach (flat_map-append (λ (x : Spot). row_offsets x.first x.copies x.step) spots (s ∷ []))
    ∙ ap (λ ys. reach (spot_offsets spots ++ ys)) (append-nil (row_offsets s.first s.copies s.step))
    ∙ reach-append (spot_offsets spots) (row_offsets s.first s.copies s.step)

abbrev made : ℕ → Option Marks → Reach
made n s = record { copies = capped n; span = s }

pub reach-row : (first step : ℤ) (n : ℕ) (s : Option Marks) → s ≡ reach_of (row_offsets first n step) → made n s ≡ reach (row_offsets first n step)
reach-row first step n s e = reach_same _ _ _ _ (sym (ap capped (count-row first step n))) e

pub reach-turns : (t : Turns) (s : Option Marks) → s ≡ reach_of (turn_offsets t) → made t.count s ≡ reach (turn_offsets t)
reach-turns t s e = reach_same _ _ _ _ (sym (ap capped (count-turns t))) e

-- the loops' steps
pub grid-step : (turns : List Turns) (i : ℕ) (d : Turns) → i < length turns
    → reach (grid_offsets (take (i + 1) turns)) ≡ summed (reach (grid_offsets (take i turns))) (reach (turn_offsets (get_or turns i d)))
grid-step turns i d lt = ap (λ ts. reach (grid_offsets ts)) (take_more turns i d lt) ∙ grid-more (take i turns) (get_or turns i d)

pub spots-step : (spots : List Spot) (i : ℕ) (d : Spot) → i < length spots
    → reach (spot_offsets (take (i + 1) spots))
    ≡ beside (reach (spot_offsets (take i spots))) (reach (row_offsets (get_or spots i d).first (get_or spots i d).copies (get_or spots i d).step))
spots-step spots i d lt = ap (λ ss. reach (spot_offsets ss)) (take_more spots i d lt) ∙ spots-more (take i spots) (get_or spots i d)
