use Rattle.dt_machine.proofs.Telling.{rebuilt_is_taken}
use Rattle.dt_machine.proofs.laws.rebuilt_is_taken.Goals as goal

pub returns : goal.returns
returns c = rebuilt_is_taken
