use Rattle.std.specs.Prelude.{ℕ, zero, suc, ◌/◌, ◌%◌, ◌+ℤ◌, ◌*ℤ◌, ℤ, pos, List, [], ◌∷◌, ◌++◌, map}
use Rattle.std.specs.List.{flat_map}
use Rattle.dt_offsets.specs.declared.turns.Spot.{Spot}
use Rattle.dt_offsets.specs.declared.turns.Turns.{Turns}

-- 0, 1, .. without n
abbrev pub below : ℕ → List ℕ
below zero = []
below (suc n) = below n ++ n ∷ []

-- copies in a row
abbrev pub row_offsets : ℤ → ℕ → ℤ → List ℤ
row_offsets first copies step = map (λ j. first +ℤ (pos j *ℤ step)) (below copies)

-- from each of some offsets on each of others
abbrev pub sums : List ℤ → List ℤ → List ℤ
sums xs ys = flat_map (λ x. map (λ y. x +ℤ y) ys) xs

-- turn q is in block q / block, and there the turn q % block
abbrev pub turn_offset : Turns → ℕ → ℤ
turn_offset t q = (t.first +ℤ (pos (q / t.block) *ℤ t.jump)) +ℤ (pos (q % t.block) *ℤ t.step)

abbrev pub turn_offsets : Turns → List ℤ
turn_offsets t = map (turn_offset t) (below t.count)

-- each offset of the first turns, and there each one of the next: sums of one offset each
abbrev pub grid_offsets : List Turns → List ℤ
grid_offsets [] = pos 0 ∷ []
grid_offsets (t ∷ turns) = sums (turn_offsets t) (grid_offsets turns)

-- the rows of spots, one after another
abbrev pub spot_offsets : List Spot → List ℤ
spot_offsets spots = flat_map (λ s. row_offsets s.first s.copies s.step) spots
