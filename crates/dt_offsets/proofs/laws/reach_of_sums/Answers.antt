use Rattle.dt_offsets.proofs.Spans.{reach_of_sums}
use Rattle.dt_offsets.proofs.laws.reach_of_sums.Goals as goal

pub returns : goal.returns
returns c = reach_of_sums
