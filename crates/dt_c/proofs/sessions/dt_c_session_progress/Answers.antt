use Rattle.std.proofs.Common.{rules, refl}
use Rattle.dt_c.proofs.Calling.{calls_some}
use Rattle.dt_c.proofs.sessions.dt_c_session_progress.Goals as goal

pub returns : goal.returns
returns c =
    calls_some _ _ _ _ _ c.deref.result.now c.deref.result.now c.progress-answer.result (search rules) (search rules) (search rules)
    (refl, c.progress-answer.ensures, c.put.ensures.value)
