use Rattle.dt_spelling.proofs.Places.{one_fault}
use Rattle.dt_spelling.proofs.laws.one_fault.Goals as goal

pub returns : goal.returns
returns c = one_fault
