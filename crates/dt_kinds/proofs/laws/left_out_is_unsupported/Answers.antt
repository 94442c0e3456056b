use Rattle.dt_kinds.proofs.Table.{left_out_is_unsupported}
use Rattle.dt_kinds.proofs.laws.left_out_is_unsupported.Goals as goal

pub returns : goal.returns
returns c = left_out_is_unsupported
