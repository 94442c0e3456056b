use Rattle.std.specs.List.{AllByRecursion}
use Rattle.std.proofs.Common.{◌+ℤ◌, ◌≤ℤ◌, take}
use Rattle.dt_offsets.specs.Offsets.{spot_offsets}
use Rattle.dt_elems.specs.Apart.{AreSpread}
use Rattle.dt_elems.proofs.apart.spots_are_spread.Given as goal

abbrev pub invariant-spots : goal.invariant-spots
invariant-spots l =
    AreSpread l.room (spot_offsets (take l.spot-index l.spots)) × AllByRecursion (λ x. (x +ℤ l.room) ≤ℤ l.next) (spot_offsets (take l.spot-index l.spots))
