use Rattle.std.proofs.Common.{arith}
use Rattle.std.proofs.lemmas.Int.{ints, to_z-of_z}
use Rattle.dt_map.proofs.Extremes.{true_bounds_ordered}
use Rattle.dt_type.specs.Datatype.{entries_of}
use Rattle.dt_elems.proofs.apart.true_extent.Goals as goal

pub returns-clause-some : goal.returns-clause-some
returns-clause-some c = let ordered = true_bounds_ordered (entries_of c.args.ty.now) in grind (arith, ints, to_z-of_z)
