use Rattle.dt_verdict.proofs.Migrating.{one_fault}
use Rattle.dt_verdict.proofs.laws.one_fault.Goals as goal

pub returns : goal.returns
returns c = one_fault
