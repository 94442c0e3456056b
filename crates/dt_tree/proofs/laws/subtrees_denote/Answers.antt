use Rattle.dt_tree.proofs.Subtrees.{subtrees_denote}
use Rattle.dt_tree.proofs.laws.subtrees_denote.Goals as goal

pub returns : goal.returns
returns c = subtrees_denote
