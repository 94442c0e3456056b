use Rattle.dt_machine.proofs.Telling.{normalise_tells_one_cost}
use Rattle.dt_machine.proofs.laws.normalise_tells_one_cost.Goals as goal

pub returns : goal.returns
returns c = normalise_tells_one_cost
