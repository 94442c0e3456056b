use Rattle.dt_cursor.proofs.Running.{rounds_are_left}
use Rattle.dt_cursor.proofs.laws.rounds_are_left.Goals as goal

pub returns : goal.returns
returns c = rounds_are_left
