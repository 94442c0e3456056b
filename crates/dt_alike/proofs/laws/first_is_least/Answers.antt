use Rattle.dt_alike.proofs.Filling.{first_is_least}
use Rattle.dt_alike.proofs.laws.first_is_least.Goals as goal

pub returns : goal.returns
returns c = first_is_least
