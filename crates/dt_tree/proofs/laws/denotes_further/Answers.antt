use Rattle.dt_tree.proofs.Subtrees.{denotes_further}
use Rattle.dt_tree.proofs.laws.denotes_further.Goals as goal

pub returns : goal.returns
returns c = denotes_further
