use Rattle.dt_sessions.proofs.OpenLemmas.{holds_closed}
use Rattle.dt_sessions.proofs.transfers.Transfers.close.Goals as goal

pub invariant_of-self : goal.invariant_of-self
invariant_of-self c = rw c.remove.ensures.entries (holds_closed c.self.inside.buffers c.self.inside.sessions.entries _ c.self.invariant)
