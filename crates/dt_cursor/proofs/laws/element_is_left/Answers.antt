use Rattle.dt_cursor.proofs.Running.{element_is_left}
use Rattle.dt_cursor.proofs.laws.element_is_left.Goals as goal

pub returns : goal.returns
returns c = element_is_left
