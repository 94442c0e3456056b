use Rattle.dt_map.proofs.Leading.{done_is_greatest}
use Rattle.dt_map.proofs.laws.done_is_greatest.Goals as goal

pub returns : goal.returns
returns c = done_is_greatest
