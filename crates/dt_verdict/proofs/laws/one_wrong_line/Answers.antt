use Rattle.dt_verdict.proofs.Verdicts.{one_wrong_line}
use Rattle.dt_verdict.proofs.laws.one_wrong_line.Goals as goal

pub returns : goal.returns
returns c = one_wrong_line
