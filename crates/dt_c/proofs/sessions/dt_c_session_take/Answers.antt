use Rattle.std.proofs.Common.{rules}
use Rattle.dt_c.proofs.Calling.{calls_some}
use Rattle.dt_c.proofs.sessions.dt_c_session_take.Goals as goal

pub returns : goal.returns
returns c =
    calls_some _ _ _ _ _ c.deref_mut.result.now c.take-answer.new.self c.take-answer.result (search rules) (search rules) (search rules)
    (c.take-answer.ensures, c.put.ensures.value)
