use Rattle.std.proofs.Common.{◌≡◌, ◌++◌, map, take}
use Rattle.dt_layout.specs.declared.instr.Instr.TheVariants.{Spot}
use Rattle.dt_layout.proofs.places.push_spots.Given as goal

-- the spots up to here are appended
abbrev pub invariant-spots : goal.invariant-spots
invariant-spots l = l.out.items ≡ l.fn.out.items ++ map Spot (take l.spot-index l.spots)
