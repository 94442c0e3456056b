-- When levels of turns stand in for others.
use Rattle.std.specs.Prelude.{◌≡◌, ℕ, ◌<◌, ◌≤◌, ◌+ℤ◌, ◌*ℤ◌, ℤ, pos, List, ◌++◌, length}
use Rattle.std.specs.List.{AllByRecursion}
use Rattle.dt_layout.specs.Written.{GiveOffsets}
use Rattle.dt_map.specs.declared.entry.Entry.{Entry}
use Rattle.dt_offsets.specs.declared.turns.Turns.{Turns}
use Rattle.dt_offsets.specs.Near.{AreTurns, IsFactor}
use Rattle.dt_offsets.specs.Offsets.{sums, turn_offset, turn_offsets, grid_offsets}
use Rattle.dt_type.specs.Listing.{entries_at}

-- turns are evenly spaced, with this step
pub record AreEven (t : Turns) (step : ℤ) : Type 0 where
  pub factor : IsFactor step
  pub even : (q : ℕ) → q < t.count → turn_offset t q ≡ t.first +ℤ (pos q *ℤ step)

-- turns that give what others give
pub record AreSame (t u : Turns) : Type 0 where
  pub turns : AreTurns u
  pub same : turn_offsets u ≡ turn_offsets t

-- turns that give each sum of an offset of some and one of others
pub record AreJoined (outer inner t : Turns) : Type 0 where
  pub turns : AreTurns t
  pub sums : turn_offsets t ≡ sums (turn_offsets outer) (turn_offsets inner)

-- nested turns that place what others place, whatever stands inside, and are no more
pub record StandIn (all levels : List Turns) : Type 0 where
  pub turns : AllByRecursion AreTurns levels
  pub same : (es : List Entry) → entries_at (grid_offsets levels) es ≡ entries_at (grid_offsets all) es
  pub few : length levels ≤ length all
  pub gives : (inside : List Turns) → (x : ℤ) → GiveOffsets (all ++ inside) x → GiveOffsets (levels ++ inside) x
