use Rattle.std.proofs.Common.{rules}
use Rattle.dt_c.proofs.Calling.{calls_some}
use Rattle.dt_c.proofs.texts.dt_c_type_import.Goals as goal

pub returns : goal.returns
returns c =
    calls_some _ _ _ _ _ c.deref_mut.result.now c.import-answer.new.space c.import-answer.result (search rules) (search rules) (search rules)
    (c.import-answer.ensures, c.put.ensures.value)
