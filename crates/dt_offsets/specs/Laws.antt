use Rattle.std.specs.Prelude.{◌≡◌, ℕ, suc, ◌+◌, ◌*◌, ◌/◌, ◌%◌, ◌≤◌, ◌+ℤ◌, ◌*ℤ◌, ℤ, pos, Some, List, ◌++◌, map}
use Rattle.std.specs.Int.{int_min, int_max}
use Rattle.std.specs.List.{flat_map}
use Rattle.dt_offsets.specs.Offsets.{below, sums}
use Rattle.dt_offsets.specs.Span.{reach_of, stretched}

-- the reach of n + 1 offsets with an even step, which may be negative
abbrev pub ReachOfEven : Type 0
ReachOfEven =
    (first step : ℤ) (n : ℕ) → reach_of (map (λ i. first +ℤ (pos i *ℤ step)) (below (suc n)))
    ≡ Some (record { lb = int_min first (first +ℤ (pos n *ℤ step)); ub = int_max first (first +ℤ (pos n *ℤ step)) })

-- the reach of sums of offsets is the sum of their reaches
abbrev pub ReachOfSums : Type 0
ReachOfSums = (xs ys : List ℤ) → reach_of (sums xs ys) ≡ stretched (reach_of xs) (reach_of ys)

-- n whole rows of b and r of a last one, counted through by one number
abbrev pub InRows : Type 0
InRows =
    (f : ℕ → ℕ → ℤ) (b n r : ℕ) → r ≤ b → map (λ q. f (q / b) (q % b)) (below (n * b + r))
    ≡ flat_map (λ i. map (f i) (below b)) (below n) ++ map (f n) (below r)
