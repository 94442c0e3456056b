use Rattle.dt_map.proofs.Likeness.{extent_of_alike}
use Rattle.dt_map.proofs.alike.extent_of_alike.Goals as goal

pub returns : goal.returns
returns c = extent_of_alike
