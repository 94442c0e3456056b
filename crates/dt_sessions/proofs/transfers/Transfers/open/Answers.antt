use Rattle.std.proofs.Common.{sym, ap, subst}
use Rattle.dt_sessions.specs.Open.{Standing, IsOver, with_opened}
use Rattle.dt_sessions.proofs.OpenLemmas.{holds_opened}
use Rattle.dt_sessions.proofs.transfers.Transfers.open.Goals as goal

pub invariant_of-self-2 : goal.invariant_of-self-2
invariant_of-self-2 c =
    let over : IsOver c.self.inside.buffers c.args.opened = subst (λ (s : Standing). IsOver s.buffers c.args.opened) (sym c.self.view_is) c.requires in
    rw c.in_ok-insert.ensures.entries (holds_opened c.self.inside.buffers c.self.inside.sessions.entries c.args.name c.args.opened c.self.invariant over)

pub returns-clause-ok : goal.returns-clause-ok
returns-clause-ok c = rw c.in_ok-insert.ensures.entries (ap (λ (s : Standing). with_opened s c.args.name c.args.opened) c.self.view_is)
