use Rattle.dt_cursor.proofs.Running.{round_is_pushed}
use Rattle.dt_cursor.proofs.laws.round_is_pushed.Goals as goal

pub returns : goal.returns
returns c = round_is_pushed
