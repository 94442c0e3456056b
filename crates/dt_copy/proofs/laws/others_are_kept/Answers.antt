use Rattle.dt_copy.proofs.Places.{others_are_kept}
use Rattle.dt_copy.proofs.laws.others_are_kept.Goals as goal

pub returns : goal.returns
returns c = others_are_kept
