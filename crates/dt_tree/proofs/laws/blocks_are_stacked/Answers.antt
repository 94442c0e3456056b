use Rattle.dt_tree.proofs.Subtrees.{blocks_are_stacked}
use Rattle.dt_tree.proofs.laws.blocks_are_stacked.Goals as goal

pub returns : goal.returns
returns c = blocks_are_stacked
