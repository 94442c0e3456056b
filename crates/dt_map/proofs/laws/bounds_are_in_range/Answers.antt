use Rattle.dt_map.proofs.Rounding.{bounds_are_in_range}
use Rattle.dt_map.proofs.laws.bounds_are_in_range.Goals as goal

pub returns : goal.returns
returns c = bounds_are_in_range
