use Rattle.dt_cursor.proofs.Running.{element_is_pushed}
use Rattle.dt_cursor.proofs.laws.element_is_pushed.Goals as goal

pub returns : goal.returns
returns c = element_is_pushed
