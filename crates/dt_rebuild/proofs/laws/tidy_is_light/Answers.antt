use Rattle.dt_rebuild.proofs.Measures.{tidy_is_light}
use Rattle.dt_rebuild.proofs.laws.tidy_is_light.Goals as goal

pub returns : goal.returns
returns c = tidy_is_light
