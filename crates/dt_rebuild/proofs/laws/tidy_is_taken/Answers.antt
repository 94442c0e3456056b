use Rattle.dt_rebuild.proofs.Taking.{tidy_is_taken}
use Rattle.dt_rebuild.proofs.laws.tidy_is_taken.Goals as goal

pub returns : goal.returns
returns c = tidy_is_taken
