use Rattle.std.proofs.Common.{arith}
use Rattle.std.proofs.lemmas.Int.{ints, to_z-of_z}
use Rattle.dt_offsets.proofs.Products.{factor_back}
use Rattle.dt_elems.proofs.apart.row_room.Goals as goal

pub returns-clause-up : goal.returns-clause-up
returns-clause-up c = let step = factor_back c.args.step c.requires.step in grind (arith, ints, to_z-of_z)

pub returns-clause-down : goal.returns-clause-down
returns-clause-down c = let step = factor_back c.args.step c.requires.step in grind (arith, ints, to_z-of_z)
