use Rattle.dt_machine.proofs.Once.{answers_are_one}
use Rattle.dt_machine.proofs.laws.answers_are_one.Goals as goal

pub returns : goal.returns
returns c = answers_are_one
