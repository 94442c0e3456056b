use Rattle.dt_check.proofs.Everywhere.{valid_everywhere}
use Rattle.dt_check.proofs.laws.valid_everywhere.Goals as goal

pub returns : goal.returns
returns c = valid_everywhere
