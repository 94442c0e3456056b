use Rattle.dt_offsets.proofs.Rows.{in_rows}
use Rattle.dt_offsets.proofs.laws.in_rows.Goals as goal

pub returns : goal.returns
returns c = in_rows
