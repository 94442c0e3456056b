use Rattle.std.specs.List.{flat_map}
use Rattle.std.proofs.Common.{◌≡◌, take}
use Rattle.dt_type.proofs.Lookups.{part_entries}
use Rattle.dt_type.proofs.datatype.Datatype.+listed.Given as goal

abbrev pub decreases-listed : goal.decreases-listed
decreases-listed l = goal.size-listed l

-- the entries of the parts up to here are listed
abbrev pub invariant-parts : goal.invariant-parts
invariant-parts l = l.out.items ≡ flat_map part_entries (take l.part-index l.part-items)
