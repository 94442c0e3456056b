use Rattle.dt_map.proofs.Copies.{elements_of_more}
use Rattle.dt_map.proofs.laws.elements_of_more.Goals as goal

pub returns : goal.returns
returns c = elements_of_more
