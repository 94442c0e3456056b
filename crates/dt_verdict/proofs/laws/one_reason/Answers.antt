use Rattle.dt_verdict.proofs.Verdicts.{one_reason}
use Rattle.dt_verdict.proofs.laws.one_reason.Goals as goal

pub returns : goal.returns
returns c = one_reason
