use Rattle.dt_elems.proofs.Receiving.{counts_never_fall}
use Rattle.dt_elems.proofs.laws.counts_never_fall.Goals as goal

pub returns : goal.returns
returns c = counts_never_fall
