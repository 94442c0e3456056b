use Rattle.dt_kinds.proofs.Table.{names_differ}
use Rattle.dt_kinds.proofs.laws.names_differ.Goals as goal

pub returns : goal.returns
returns c = names_differ
