use Rattle.dt_type.proofs.Reading.{entries_are_flattened}
use Rattle.dt_type.proofs.laws.entries_are_flattened.Goals as goal

pub returns : goal.returns
returns c = entries_are_flattened
