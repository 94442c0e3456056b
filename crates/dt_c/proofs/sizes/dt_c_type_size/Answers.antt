use Rattle.std.proofs.Common.{rules, refl}
use Rattle.dt_c.proofs.Calling.{calls_some}
use Rattle.dt_c.proofs.sizes.dt_c_type_size.Goals as goal

pub returns : goal.returns
returns c =
    calls_some _ _ _ _ _ c.deref.result.now c.deref.result.now c.size-answer.result (search rules) (search rules) (search rules)
    (refl, c.size-answer.ensures, c.put.ensures.value)
