use Rattle.dt_script.proofs.LineLemmas.{one_meaning}
use Rattle.dt_script.proofs.laws.one_meaning.Goals as goal

pub returns : goal.returns
returns c = one_meaning
