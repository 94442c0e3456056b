use Rattle.dt_unpack.proofs.Apart.{others_are_kept}
use Rattle.dt_unpack.proofs.laws.others_are_kept.Goals as goal

pub returns : goal.returns
returns c = others_are_kept
