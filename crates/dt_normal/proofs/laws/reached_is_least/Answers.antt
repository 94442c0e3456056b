use Rattle.dt_normal.proofs.Bounds.{reached_is_least}
use Rattle.dt_normal.proofs.laws.reached_is_least.Goals as goal

pub returns : goal.returns
returns c = reached_is_least
