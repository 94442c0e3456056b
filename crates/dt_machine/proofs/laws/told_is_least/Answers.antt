use Rattle.dt_machine.proofs.Telling.{told_is_least}
use Rattle.dt_machine.proofs.laws.told_is_least.Goals as goal

pub returns : goal.returns
returns c = told_is_least
