use Rattle.dt_tree.proofs.Tidying.{tidy_begins_at_zero}
use Rattle.dt_tree.proofs.laws.tidy_begins_at_zero.Goals as goal

pub returns : goal.returns
returns c = tidy_begins_at_zero
