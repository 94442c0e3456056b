use Rattle.dt_rebuild.proofs.Built.{built_has_entries}
use Rattle.dt_rebuild.proofs.laws.built_has_entries.Goals as goal

pub returns : goal.returns
returns c = built_has_entries
