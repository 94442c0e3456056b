use Rattle.std.proofs.Common.{rules}
use Rattle.dt_c.proofs.Calling.{calls_some}
use Rattle.dt_c.proofs.lists.dt_c_type_create_struct.Goals as goal

pub returns : goal.returns
returns c =
    calls_some _ _ _ _ _ c.deref_mut.result.now c.structure-answer.new.space c.structure-answer.result (search rules) (search rules) (search rules)
    (c.structure-answer.ensures, c.put.ensures.value)
