use Rattle.dt_cursor.proofs.Running.{next_round}
use Rattle.dt_cursor.proofs.laws.next_round.Goals as goal

pub returns : goal.returns
returns c = next_round
