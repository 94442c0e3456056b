use Rattle.dt_normal.proofs.Bounds.{least_run_is_least}
use Rattle.dt_normal.proofs.laws.least_run_is_least.Goals as goal

pub returns : goal.returns
returns c = least_run_is_least
