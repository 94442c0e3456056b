use Rattle.dt_map.proofs.Summaries.{summary_of_joined}
use Rattle.dt_map.proofs.laws.summary_of_joined.Goals as goal

pub returns : goal.returns
returns c = summary_of_joined
