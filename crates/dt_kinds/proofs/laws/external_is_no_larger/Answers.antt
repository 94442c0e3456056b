use Rattle.dt_kinds.proofs.Table.{external_is_no_larger}
use Rattle.dt_kinds.proofs.laws.external_is_no_larger.Goals as goal

pub returns : goal.returns
returns c = external_is_no_larger
