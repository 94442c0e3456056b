use Rattle.dt_accepted.proofs.Lines.{every_line_is_a_command}
use Rattle.dt_accepted.proofs.laws.every_line_is_a_command.Goals as goal

pub returns : goal.returns
returns c = every_line_is_a_command
