use Rattle.dt_layout.proofs.Bodies.{size_is_total}
use Rattle.dt_layout.proofs.laws.sizes_are_totals.Goals as goal

pub returns : goal.returns
returns c = size_is_total
