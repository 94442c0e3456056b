use Rattle.dt_check.proofs.Likening.{greatest_is_of_classes}
use Rattle.dt_check.proofs.laws.greatest_is_of_classes.Goals as goal

pub returns : goal.returns
returns c = greatest_is_of_classes
