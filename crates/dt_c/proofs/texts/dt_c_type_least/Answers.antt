use Rattle.std.proofs.Common.{rules, refl}
use Rattle.dt_c.proofs.Calling.{calls_some}
use Rattle.dt_c.proofs.texts.dt_c_type_least.Goals as goal

pub returns : goal.returns
returns c =
    calls_some _ _ _ _ _ c.deref.result.now c.deref.result.now c.least_tree-answer.result (search rules) (search rules) (search rules)
    (refl, c.least_tree-answer.ensures)
