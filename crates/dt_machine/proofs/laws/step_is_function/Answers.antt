use Rattle.dt_machine.proofs.Once.{step_is_function}
use Rattle.dt_machine.proofs.laws.step_is_function.Goals as goal

pub returns : goal.returns
returns c = step_is_function
