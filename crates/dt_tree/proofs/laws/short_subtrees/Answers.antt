use Rattle.dt_tree.proofs.Rules.{short_subtrees}
use Rattle.dt_tree.proofs.laws.short_subtrees.Goals as goal

pub returns : goal.returns
returns c = short_subtrees
