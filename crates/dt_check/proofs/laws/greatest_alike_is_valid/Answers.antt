use Rattle.dt_check.proofs.Likening.{greatest_alike_is_valid}
use Rattle.dt_check.proofs.laws.greatest_alike_is_valid.Goals as goal

pub returns : goal.returns
returns c = greatest_alike_is_valid
