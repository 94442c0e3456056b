use Rattle.dt_machine.proofs.Telling.{rebuilt_places_the_same}
use Rattle.dt_machine.proofs.laws.rebuilt_places_the_same.Goals as goal

pub returns : goal.returns
returns c = rebuilt_places_the_same
