use Rattle.dt_tree.proofs.Rules.{rule_is_tree}
use Rattle.dt_tree.proofs.laws.rule_is_tree.Goals as goal

pub returns : goal.returns
returns c = rule_is_tree
