use Rattle.dt_map.proofs.Copies.{total_of_elements}
use Rattle.dt_map.proofs.laws.total_of_elements.Goals as goal

pub returns : goal.returns
returns c = total_of_elements
