use Rattle.std.proofs.Common.{rules}
use Rattle.dt_c.proofs.Calling.{calls_some}
use Rattle.dt_c.proofs.envelopes.dt_c_type_get_contents.Goals as goal

pub returns : goal.returns
returns c =
    calls_some _ _ _ _ _ c.deref_mut.result.now c.contents-answer.new.space c.contents-answer.result (search rules) (search rules) (search rules)
    c.contents-answer.ensures
