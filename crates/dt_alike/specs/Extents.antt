use Rattle.std.specs.Prelude.{◌≡◌, ℕ, suc, ◌<◌, ◌≤ℤ◌, pos, List, length, take, slice_index}
use Rattle.dt_kinds.specs.Displacement.{FitsDisp}
use Rattle.dt_offsets.specs.declared.marks.Marks.{Marks}
use Rattle.dt_map.specs.declared.entry.Entry.{Entry}
use Rattle.dt_map.specs.Runs.{natural_extent}

-- a span in range
pub record IsWithin (span : Marks) : Type 0 where
  pub low : FitsDisp span.lb
  pub high : FitsDisp span.ub
  pub ordered : span.lb ≤ℤ span.ub

-- the natural extent of each front of a list, the shortest first
pub record AreExtents (m : List Entry) (extents : List ℕ) : Type 0 where
  pub each : length extents ≡ length m
  pub extent : (k : ℕ) → k < length m → pos (slice_index extents k) ≡ natural_extent (take (suc k) m)
