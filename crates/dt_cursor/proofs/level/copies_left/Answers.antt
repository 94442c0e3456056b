use Rattle.std.proofs.Common.{refl}
use Rattle.dt_offsets.proofs.Products.{factor_back}
use Rattle.dt_cursor.proofs.Evenly.{rest_of_copies}
use Rattle.dt_cursor.proofs.level.copies_left.Goals as goal

pub returns-clause-rest : goal.returns-clause-rest
returns-clause-rest c = rest_of_copies c.args.spot c.args.copy c.requires.within _ c.from.ensures refl (factor_back c.args.spot.step c.requires.spot.step)
