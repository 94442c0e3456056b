use Rattle.dt_wire.proofs.Uniques.{one_spelling}
use Rattle.dt_wire.proofs.laws.one_spelling.Goals as goal

pub returns : goal.returns
returns c = one_spelling
