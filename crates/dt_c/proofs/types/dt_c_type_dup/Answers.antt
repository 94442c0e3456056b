use Rattle.std.proofs.Common.{rules}
use Rattle.dt_c.proofs.Calling.{calls_some}
use Rattle.dt_c.proofs.types.dt_c_type_dup.Goals as goal

pub returns : goal.returns
returns c =
    calls_some _ _ _ _ _ c.deref_mut.result.now c.dup-answer.new.self c.dup-answer.result (search rules) (search rules) (search rules)
    (c.dup-answer.ensures, c.put.ensures.value)
