use Rattle.dt_elems.proofs.Receiving.{repeated_often}
use Rattle.dt_elems.proofs.laws.repeated_often.Goals as goal

pub returns : goal.returns
returns c = repeated_often
