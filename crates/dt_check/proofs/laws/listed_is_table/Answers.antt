use Rattle.dt_check.proofs.Looking.{listed_is_table}
use Rattle.dt_check.proofs.laws.listed_is_table.Goals as goal

pub returns : goal.returns
returns c = listed_is_table
