use Rattle.dt_copy.proofs.Places.{each_is_copied}
use Rattle.dt_copy.proofs.laws.each_is_copied.Goals as goal

pub returns : goal.returns
returns c = each_is_copied
