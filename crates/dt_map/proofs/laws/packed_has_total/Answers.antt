use Rattle.dt_map.proofs.Writing.{packed_has_total}
use Rattle.dt_map.proofs.laws.packed_has_total.Goals as goal

pub returns : goal.returns
returns c = packed_has_total
