use Rattle.dt_reduce.proofs.Columns.{merges_are_folded}
use Rattle.dt_reduce.proofs.laws.merges_are_folded.Goals as goal

pub returns : goal.returns
returns c = merges_are_folded
