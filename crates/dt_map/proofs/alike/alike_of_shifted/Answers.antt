use Rattle.dt_map.proofs.Likeness.{alike_of_shifted}
use Rattle.dt_map.proofs.alike.alike_of_shifted.Goals as goal

pub returns : goal.returns
returns c = alike_of_shifted
