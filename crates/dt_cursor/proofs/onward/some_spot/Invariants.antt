use Rattle.std.proofs.Common.{◌-◌, ◌≡◌, ◌≤◌, List, length}
use Rattle.dt_cursor.specs.Onward.{HaveNoCopies}
use Rattle.dt_cursor.specs.Search.{AreSpots}
use Rattle.dt_offsets.specs.declared.turns.Spot.{Spot}
use Rattle.dt_cursor.proofs.onward.some_spot.Given as goal

-- the spots up to here have no copies
abbrev pub invariant-spots : goal.invariant-spots
invariant-spots l = record {
  few : l.i ≤ l.fn.count;
  skipped : (all : List Spot) → AreSpots l.program l.fn.first all → length all ≡ l.fn.count → HaveNoCopies all l.fn.from l.i;
}

abbrev pub decreases-spots : goal.decreases-spots
decreases-spots l = l.count - l.i
