use Rattle.dt_map.proofs.Copies.{elements_are_placed}
use Rattle.dt_map.proofs.laws.elements_are_placed.Goals as goal

pub returns : goal.returns
returns c = elements_are_placed
