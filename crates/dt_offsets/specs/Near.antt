use Rattle.std.specs.Prelude.{Option, Some, None, ℕ, ◌*◌, ◌^◌, ◌<◌, ◌≤◌, ℤ, nat_abs, List, take}
use Rattle.std.specs.List.{AllByRecursion}
use Rattle.dt_offsets.specs.declared.marks.Marks.{Marks}
use Rattle.dt_offsets.specs.declared.turns.Spot.{Spot}
use Rattle.dt_offsets.specs.declared.turns.Turns.{Turns}
use Rattle.dt_offsets.specs.Offsets.{grid_offsets}

-- What has to hold of the numbers that say offsets, for the arithmetic on them to stay within 128 bits.

-- a first, jump or step: its absolute value is below 2^93
abbrev pub IsFactor : ℤ → Type 0
IsFactor x = nat_abs x < 2 ^ 93

-- turns in blocks of at most so many, with at most so many blocks
pub record AreTurnsWithin (limit : ℕ) (t : Turns) : Type 0 where
  pub first : IsFactor t.first
  pub jump : IsFactor t.jump
  pub step : IsFactor t.step
  pub least : 1 ≤ t.block
  pub most : t.block ≤ limit
  pub count : t.count ≤ limit * t.block

abbrev pub AreTurns : Turns → Type 0
AreTurns t = AreTurnsWithin (2 ^ 32) t

pub record IsSpot (s : Spot) : Type 0 where
  pub first : IsFactor s.first
  pub step : IsFactor s.step

-- an offset two of which sum up within 128 bits
abbrev pub IsNear : ℤ → Type 0
IsNear x = nat_abs x < 2 ^ 126

-- a span whose ends are near
abbrev pub IsNearSpan : Option Marks → Type 0
IsNearSpan None = Unit {0}
IsNearSpan (Some span) = IsNear span.lb × IsNear span.ub

-- of nested turns: the sums of one offset each of the first k, for any k, are near
abbrev pub StayNear : List Turns → Type 0
StayNear turns = (k : ℕ) → AllByRecursion IsNear (grid_offsets (take k turns))
