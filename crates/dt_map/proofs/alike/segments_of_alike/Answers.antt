use Rattle.dt_map.proofs.Likeness.{segments_of_alike}
use Rattle.dt_map.proofs.alike.segments_of_alike.Goals as goal

pub returns : goal.returns
returns c = segments_of_alike
