use Rattle.dt_accepted.proofs.Scripts.{every_command_is_accepted}
use Rattle.dt_accepted.proofs.laws.every_command_is_accepted.Goals as goal

pub returns : goal.returns
returns c = every_command_is_accepted
