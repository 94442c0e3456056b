use Rattle.dt_machine.proofs.Joining.{takes_are_joined}
use Rattle.dt_machine.proofs.laws.takes_are_joined.Goals as goal

pub returns : goal.returns
returns c = takes_are_joined
