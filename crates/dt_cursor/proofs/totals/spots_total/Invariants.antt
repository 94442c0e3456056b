use Rattle.std.proofs.Common.{◌≡◌, ◌+◌, ◌*◌, ◌-◌, ◌≤◌, List, drop, length}
use Rattle.dt_cursor.specs.Search.{AreSpots}
use Rattle.dt_offsets.specs.declared.turns.Spot.{Spot}
use Rattle.dt_offsets.specs.Offsets.{spot_offsets}
use Rattle.dt_cursor.proofs.totals.spots_total.Given as goal

-- the bytes of the spots up to here
abbrev pub invariant-spots : goal.invariant-spots
invariant-spots l = record {
  few : l.i ≤ l.fn.count;
  bytes : (all : List Spot) → AreSpots l.program l.fn.first all → length all ≡ l.fn.count → length (spot_offsets all) * l.fn.each ≡ l.bytes + length (spot_offsets (drop l.i all)) * l.fn.each;
}

abbrev pub decreases-spots : goal.decreases-spots
decreases-spots l = l.count - l.i
