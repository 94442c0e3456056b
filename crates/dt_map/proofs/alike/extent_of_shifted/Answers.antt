use Rattle.dt_map.proofs.Likeness.{extent_of_shifted}
use Rattle.dt_map.proofs.alike.extent_of_shifted.Goals as goal

pub returns : goal.returns
returns c = extent_of_shifted
