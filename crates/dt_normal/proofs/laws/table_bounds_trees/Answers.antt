use Rattle.dt_normal.proofs.Bounds.{table_bounds_trees}
use Rattle.dt_normal.proofs.laws.table_bounds_trees.Goals as goal

pub returns : goal.returns
returns c = table_bounds_trees
