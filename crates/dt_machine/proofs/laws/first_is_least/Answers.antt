use Rattle.dt_machine.proofs.Rows.{first_is_least}
use Rattle.dt_machine.proofs.laws.first_is_least.Goals as goal

pub returns : goal.returns
returns c = first_is_least
