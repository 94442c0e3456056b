use Rattle.dt_alike.proofs.Filling.{classes_are_alike}
use Rattle.dt_alike.proofs.laws.classes_are_alike.Goals as goal

pub returns : goal.returns
returns c = classes_are_alike
