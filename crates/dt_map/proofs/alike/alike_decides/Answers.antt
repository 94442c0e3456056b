use Rattle.dt_map.proofs.Likeness.{alike_decides}
use Rattle.dt_map.proofs.alike.alike_decides.Goals as goal

pub returns : goal.returns
returns c = alike_decides
