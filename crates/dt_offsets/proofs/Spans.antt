-- How spans shift, join and stretch.
use Rattle.std.proofs.Common.{◌≡◌, ℕ, zero, suc, ℤ, pos, negsuc, ◌+ℤ◌, ◌*ℤ◌, Option, Some, None, List, [], ◌∷◌, ◌++◌, map, refl, sym, ap, ◌∙◌, arith}
use Rattle.std.proofs.lemmas.Int.{ints, clamps}
use Rattle.std.proofs.lemmas.List.{map-append}
use Rattle.std.specs.Int.{int_min, int_max}
use Rattle.dt_offsets.specs.declared.marks.Marks.{Marks}
use Rattle.dt_offsets.specs.Laws.{ReachOfEven, ReachOfSums}
use Rattle.dt_offsets.specs.Offsets.{below, sums}
use Rattle.dt_offsets.specs.Span.{shift_marks, joined_marks, spans, point, reach_of, stretched}

-- pairs of bounds
pub both : (low_a low_b high_a high_b : ℤ) → low_a ≡ low_b → high_a ≡ high_b → Some (let m : Marks = record { lb = low_a; ub = high_a } in m) ≡ Some (record { lb = low_b; ub = high_b })
both low_a low_b high_a high_b e f = cc

pub joined_marks_assoc : (a b c : Option Marks) → joined_marks (joined_marks a b) c ≡ joined_marks a (joined_marks b c)
joined_marks_assoc None b c = refl
joined_marks_assoc (Some a) None c = refl
joined_marks_assoc (Some a) (Some b) None = refl
joined_marks_assoc (Some a) (Some b) (Some c) = both _ _ _ _ (omega (arith, ints, clamps)) (omega (arith, ints, clamps))

pub joined_marks_none : (a : Option Marks) → joined_marks a None ≡ a
joined_marks_none None = refl
joined_marks_none (Some a) = refl

pub shift_marks-joined : (x : ℤ) (a b : Option Marks) → shift_marks x (joined_marks a b) ≡ joined_marks (shift_marks x a) (shift_marks x b)
shift_marks-joined x None b = refl
shift_marks-joined x (Some a) None = refl
shift_marks-joined x (Some a) (Some b) = both _ _ _ _ (omega (arith, ints, clamps)) (omega (arith, ints, clamps))

pub shift_marks-shift_marks : (x y : ℤ) (a : Option Marks) → shift_marks x (shift_marks y a) ≡ shift_marks (y +ℤ x) a
shift_marks-shift_marks x y None = refl
shift_marks-shift_marks x y (Some a) = both _ _ _ _ (omega (arith, ints)) (omega (arith, ints))

pub stretched_more : (x : ℤ) (reach bounds : Option Marks) →
    joined_marks (shift_marks x bounds) (stretched reach bounds) ≡ stretched (joined_marks (point x) reach) bounds
stretched_more x None None = refl
stretched_more x (Some r) None = refl
stretched_more x None (Some b) = refl
stretched_more x (Some r) (Some b) = both _ _ _ _ (omega (arith, ints, clamps)) (omega (arith, ints, clamps))

pub spans-append : {X : Type 0} (f : X → Option Marks) (xs ys : List X) → spans f (xs ++ ys) ≡ joined_marks (spans f xs) (spans f ys)
spans-append f [] ys = refl
spans-append f (x ∷ xs) ys = ap (joined_marks (f x)) (spans-append f xs ys) ∙ sym (joined_marks_assoc (f x) (spans f xs) (spans f ys))

-- offsets x bytes further on
pub reach_of-further : (x : ℤ) (xs : List ℤ) → reach_of (map (λ y. x +ℤ y) xs) ≡ shift_marks x (reach_of xs)
reach_of-further x [] = refl
reach_of-further x (y ∷ ys) =
    let moved : point (x +ℤ y) ≡ shift_marks x (point y) = both _ _ _ _ (omega (arith, ints)) (omega (arith, ints)) in
    ap (λ p. joined_marks p (reach_of (map (λ y. x +ℤ y) ys))) moved
    ∙ (ap (joined_marks (shift_marks x (point y))) (reach_of-further x ys) ∙ sym (shift_marks-joined x (point y) (reach_of ys)))

pub reach_of_sums : ReachOfSums
reach_of_sums [] ys = refl
reach_of_sums (x ∷ xs) ys =
    spans-append point (map (λ y. x +ℤ y) ys) (sums xs ys)
    ∙ (ap (λ r. joined_marks r (reach_of (sums xs ys))) (reach_of-further x ys)
    ∙ (ap (joined_marks (shift_marks x (reach_of ys))) (reach_of_sums xs ys) ∙ stretched_more x (reach_of xs) (reach_of ys)))

-- one even step more
step_more : (first step : ℤ) (n : ℕ) → first +ℤ (pos (suc n) *ℤ step) ≡ (first +ℤ (pos n *ℤ step)) +ℤ step
step_more first (pos s) n = omega (arith, ints)
step_more first (negsuc s) n = omega (arith, ints)

even_more : (first step : ℤ) (n : ℕ) →
    joined_marks (Some (record { lb = int_min first (first +ℤ (pos n *ℤ step)); ub = int_max first (first +ℤ (pos n *ℤ step)) }))
    (Some (record { lb = first +ℤ (pos (suc n) *ℤ step); ub = first +ℤ (pos (suc n) *ℤ step) }))
    ≡ Some (record { lb = int_min first (first +ℤ (pos (suc n) *ℤ step)); ub = int_max first (first +ℤ (pos (suc n) *ℤ step)) })
even_more first (pos s) n = both _ _ _ _ (omega (arith, ints, clamps)) (omega (arith, ints, clamps))
even_more first (negsuc s) n = both _ _ _ _ (omega (arith, ints, clamps)) (omega (arith, ints, clamps))

first_alone : (first step : ℤ) → (let r : Option Marks = Some (record { lb = first +ℤ (pos 0 *ℤ step); ub = first +ℤ (pos 0 *ℤ step) }) in r)
    ≡ Some (record { lb = int_min first (first +ℤ (pos 0 *ℤ step)); ub = int_max first (first +ℤ (pos 0 *ℤ step)) })
first_alone first (pos s) = both _ _ _ _ (omega (arith, ints, clamps)) (omega (arith, ints, clamps))
first_alone first (negsuc s) = both _ _ _ _ (omega (arith, ints, clamps)) (omega (arith, ints, clamps))

pub reach_of_even : ReachOfEven
reach_of_even first step zero = first_alone first step
reach_of_even first step (suc n) =
    let at : ℕ → ℤ = λ i. first +ℤ (pos i *ℤ step) in
    ap reach_of (map-append at (below (suc n)) (suc n ∷ []))
    ∙ (spans-append point (map at (below (suc n))) (at (suc n) ∷ [])
    ∙ (ap (λ r. joined_marks r (reach_of (at (suc n) ∷ []))) (reach_of_even first step n) ∙ even_more first step n))
