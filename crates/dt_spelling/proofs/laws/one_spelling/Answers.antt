use Rattle.dt_spelling.proofs.Uniques.{one_spelling}
use Rattle.dt_spelling.proofs.laws.one_spelling.Goals as goal

pub returns : goal.returns
returns c = one_spelling
