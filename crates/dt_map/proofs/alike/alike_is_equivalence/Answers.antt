use Rattle.dt_map.proofs.Likeness.{alike_is_equivalence}
use Rattle.dt_map.proofs.alike.alike_is_equivalence.Goals as goal

pub returns : goal.returns
returns c = alike_is_equivalence
