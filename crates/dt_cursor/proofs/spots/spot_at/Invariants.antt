use Rattle.std.proofs.Common.{◌≡◌, ◌+◌, ◌-◌, ◌≤◌, List, length, take}
use Rattle.dt_cursor.specs.Search.{AreSpots}
use Rattle.dt_offsets.specs.declared.turns.Spot.{Spot}
use Rattle.dt_offsets.specs.Offsets.{spot_offsets}
use Rattle.dt_cursor.proofs.spots.spot_at.Given as goal

-- the copies of the spots up to here are taken away
abbrev pub invariant-spots : goal.invariant-spots
invariant-spots g l = record {
  number : (all : List Spot) → AreSpots (g.C.Code.program l.fn.code) l.fn.first all → length all ≡ l.fn.count → l.fn.number ≡ length (spot_offsets (take l.i all)) + l.left;
  same : g.C.Code.program l.code ≡ g.C.Code.program l.fn.code;
  reads : g.C.Code.reads l.code ≤ g.C.Code.reads l.fn.code + l.i;
  few : l.i ≤ l.fn.count;
}

abbrev pub decreases-spots : goal.decreases-spots
decreases-spots g l = l.count - l.i
