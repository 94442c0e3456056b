use Rattle.dt_normal.proofs.Bounds.{too_high_is_not_valid}
use Rattle.dt_normal.proofs.laws.too_high_is_not_valid.Goals as goal

pub returns : goal.returns
returns c = too_high_is_not_valid
