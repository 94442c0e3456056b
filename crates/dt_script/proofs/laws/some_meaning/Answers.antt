use Rattle.dt_script.proofs.LineLemmas.{some_meaning}
use Rattle.dt_script.proofs.laws.some_meaning.Goals as goal

pub returns : goal.returns
returns c = some_meaning
