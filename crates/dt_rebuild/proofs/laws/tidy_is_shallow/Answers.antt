use Rattle.dt_rebuild.proofs.Depths.{tidy_is_shallow}
use Rattle.dt_rebuild.proofs.laws.tidy_is_shallow.Goals as goal

pub returns : goal.returns
returns c = tidy_is_shallow
