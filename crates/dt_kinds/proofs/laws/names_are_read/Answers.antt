use Rattle.dt_kinds.proofs.Table.{names_are_read}
use Rattle.dt_kinds.proofs.laws.names_are_read.Goals as goal

pub returns : goal.returns
returns c = names_are_read
