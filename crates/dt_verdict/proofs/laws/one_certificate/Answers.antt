use Rattle.dt_verdict.proofs.Verdicts.{one_certificate}
use Rattle.dt_verdict.proofs.laws.one_certificate.Goals as goal

pub returns : goal.returns
returns c = one_certificate
