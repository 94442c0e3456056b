use Rattle.dt_kinds.proofs.Table.{sizes_are_powers}
use Rattle.dt_kinds.proofs.laws.sizes_are_powers.Goals as goal

pub returns : goal.returns
returns c = sizes_are_powers
