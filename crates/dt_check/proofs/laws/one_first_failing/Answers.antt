use Rattle.dt_check.proofs.Everywhere.{one_first_failing}
use Rattle.dt_check.proofs.laws.one_first_failing.Goals as goal

pub returns : goal.returns
returns c = one_first_failing
