use Rattle.std.proofs.Common.{rules}
use Rattle.dt_c.proofs.Calling.{calls_some}
use Rattle.dt_c.proofs.sessions.dt_c_session_seek.Goals as goal

pub returns : goal.returns
returns c =
    calls_some _ _ _ _ _ c.deref_mut.result.now c.seek-answer.new.self c.seek-answer.result (search rules) (search rules) (search rules)
    c.seek-answer.ensures
