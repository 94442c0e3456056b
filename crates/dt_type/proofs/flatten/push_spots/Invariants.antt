use Rattle.std.proofs.Common.{◌≡◌, ◌++◌, take}
use Rattle.dt_type.specs.Listing.{entries_at}
use Rattle.dt_offsets.specs.Offsets.{spot_offsets}
use Rattle.dt_type.proofs.flatten.push_spots.Given as goal

-- the copies of the spots up to here are appended
abbrev pub invariant-spots : goal.invariant-spots
invariant-spots l = l.out.items ≡ l.fn.out.items ++ entries_at (spot_offsets (take l.spot-index l.spots)) l.one
