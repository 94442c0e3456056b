use Rattle.std.specs.Prelude.{ℕ, ◌^◌, List, [], ◌∷◌, take}
use Rattle.std.specs.List.{AllByRecursion}
use Rattle.dt_kinds.specs.Displacement.{FitsDisp}
use Rattle.dt_offsets.specs.declared.turns.Turns.{Turns}
use Rattle.dt_offsets.specs.Near.{IsFactor, AreTurnsWithin, IsSpot}
use Rattle.dt_offsets.specs.Offsets.{turn_offsets, grid_offsets}
use Rattle.dt_type.specs.declared.datatype.Seen.{Seen}
use Rattle.dt_type.specs.declared.shape.ShapeOf.{ShapeOf}
use Rattle.dt_type.specs.declared.shape.ShapeOf.TheVariants.{One, Grid, Each, Seq}
use Rattle.dt_type.specs.declared.shape.ShapePartOf.{ShapePartOf}

-- What has to hold of the numbers of a shape, for the arithmetic of bounds to stay within 128 bits.

-- turns in blocks of at most 2^31, with at most so many blocks
abbrev pub AreShapeTurns : Turns → Type 0
AreShapeTurns t = AreTurnsWithin (2 ^ 31) t

pub record IsShapePart (p : ShapePartOf Seen) : Type 0 where
  pub first : IsFactor p.first
  pub step : IsFactor p.step

-- of each of several turns, and of the first k for any k, the offsets are displacements
abbrev pub AreNested : List Turns → Type 0
AreNested [] = Unit {0}
AreNested (t ∷ []) = Unit {0}
AreNested (t ∷ u ∷ turns) =
    AllByRecursion (λ v. AllByRecursion FitsDisp (turn_offsets v)) (t ∷ u ∷ turns) × ((k : ℕ) → AllByRecursion FitsDisp (grid_offsets (take k (t ∷ u ∷ turns))))

abbrev pub HasNumbers : ShapeOf Seen → Type 0
HasNumbers (One kind) = Unit {0}
HasNumbers (Grid turns old) = AllByRecursion AreShapeTurns turns × AreNested turns
HasNumbers (Each spots old) = AllByRecursion IsSpot spots
HasNumbers (Seq parts) = AllByRecursion IsShapePart parts
