use Rattle.dt_copy.proofs.Elements.{copied_is_set}
use Rattle.dt_copy.proofs.laws.copied_is_set.Goals as goal

pub returns : goal.returns
returns c = copied_is_set
