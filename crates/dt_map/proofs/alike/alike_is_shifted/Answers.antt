use Rattle.dt_map.proofs.Likeness.{alike_is_shifted}
use Rattle.dt_map.proofs.alike.alike_is_shifted.Goals as goal

pub returns : goal.returns
returns c = alike_is_shifted
