use Rattle.dt_machine.proofs.JoinedGives.{gives_are_joined}
use Rattle.dt_machine.proofs.laws.gives_are_joined.Goals as goal

pub returns : goal.returns
returns c = gives_are_joined
