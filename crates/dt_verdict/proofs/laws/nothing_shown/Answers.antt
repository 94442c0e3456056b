use Rattle.dt_verdict.proofs.Verdicts.{nothing_shown}
use Rattle.dt_verdict.proofs.laws.nothing_shown.Goals as goal

pub returns : goal.returns
returns c = nothing_shown
