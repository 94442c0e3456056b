use Rattle.dt_map.proofs.Rounding.{padding_is_least}
use Rattle.dt_map.proofs.laws.padding_is_least.Goals as goal

pub returns : goal.returns
returns c = padding_is_least
