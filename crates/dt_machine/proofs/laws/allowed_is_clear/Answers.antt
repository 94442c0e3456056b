use Rattle.dt_machine.proofs.Rows.{allowed_is_clear}
use Rattle.dt_machine.proofs.laws.allowed_is_clear.Goals as goal

pub returns : goal.returns
returns c = allowed_is_clear
