use Rattle.dt_map.proofs.Rounding.{natural_is_least}
use Rattle.dt_map.proofs.laws.natural_is_least.Goals as goal

pub returns : goal.returns
returns c = natural_is_least
