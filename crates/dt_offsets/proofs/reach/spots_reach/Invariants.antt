use Rattle.std.proofs.Common.{◌≡◌, take}
use Rattle.dt_offsets.specs.Reach.{reach}
use Rattle.dt_offsets.specs.Offsets.{spot_offsets}
use Rattle.dt_offsets.specs.Near.{IsNearSpan}
use Rattle.dt_offsets.proofs.reach.spots_reach.Given as goal

abbrev pub invariant-loop-spot : goal.invariant-loop-spot
invariant-loop-spot l = (l.reach ≡ reach (spot_offsets (take l.spot-index l.spots))) × IsNearSpan l.reach.span
