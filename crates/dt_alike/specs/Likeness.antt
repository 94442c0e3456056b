use Rattle.std.specs.Prelude.{◌≡◌, ℕ, suc, ◌+◌, ◌-◌, ◌≤◌, ◌<◌, pos, List, length, slice_index_or}
use Rattle.std.specs.Global.{Vec}
use Rattle.dt_map.specs.declared.entry.Entry.{Entry}
use Rattle.dt_map.specs.Alike.{segment}
use Rattle.dt_map.specs.Runs.{natural_extent}
use Rattle.dt_alike.specs.declared.likeness.Blocks.{Blocks}
use Rattle.dt_alike.specs.declared.likeness.Likeness.{Likeness}
use Rattle.dt_alike.specs.Blocks.{AreAlike, AreEven, AreStacked, IsRun}
use Rattle.dt_alike.specs.First.{first_alike}

-- of how many blocks a segment is the first one
pub record AreBlocks (m : List Entry) (start len : ℕ) (blocks : Blocks) : Type 0 where
  pub alike : IsRun (AreAlike m start len) m start len blocks.alike
  pub even : IsRun (AreEven m start len) m start len blocks.even
  pub stacked : IsRun (AreStacked m start len) m start len blocks.stacked

-- what is known of a segment
pub record IsLikeness (m : List Entry) (start len : ℕ) (a : Likeness) : Type 0 where
  pub first : a.first ≡ first_alike m start len
  pub blocks : AreBlocks m start len a.blocks
  pub natural : pos a.natural ≡ natural_extent (segment m start len)

-- what is known of all segments that begin at a place, the shorter first
pub record IsRow (m : List Entry) (start : ℕ) (row : List Likeness) : Type 0 where
  pub each : start + length row ≡ length m
  pub known : (k : ℕ) (other : Likeness) → k < length row → IsLikeness m start (suc k) (slice_index_or row k other)

-- the rows of the last starts, the last one first
pub record AreRows (m : List Entry) (rows : List (Vec Likeness)) : Type 0 where
  pub few : length rows ≤ length m
  pub row : (k : ℕ) (other : Vec Likeness) → k < length rows → IsRow m (length m - suc k) (slice_index_or rows k other).items
