use Rattle.dt_offsets.proofs.Spans.{reach_of_even}
use Rattle.dt_offsets.proofs.laws.reach_of_even.Goals as goal

pub returns : goal.returns
returns c = reach_of_even
