use Rattle.dt_map.proofs.Summaries.{bounds_from_summary}
use Rattle.dt_map.proofs.laws.bounds_from_summary.Goals as goal

pub returns : goal.returns
returns c = bounds_from_summary
