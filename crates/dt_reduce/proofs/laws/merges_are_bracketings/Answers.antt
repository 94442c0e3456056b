use Rattle.dt_reduce.proofs.Merging.{merges_are_bracketings}
use Rattle.dt_reduce.proofs.laws.merges_are_bracketings.Goals as goal

pub returns : goal.returns
returns c = merges_are_bracketings
