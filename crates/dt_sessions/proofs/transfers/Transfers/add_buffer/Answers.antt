use Rattle.std.proofs.Common.{◌≡◌, None, sym, subst}
use Rattle.dt_names.specs.Names.{under}
use Rattle.dt_sessions.specs.Open.{Standing}
use Rattle.dt_sessions.proofs.OpenLemmas.{holds_buffer}
use Rattle.dt_sessions.proofs.transfers.Transfers.add_buffer.Goals as goal

pub invariant_of-self-2 : goal.invariant_of-self-2
invariant_of-self-2 c =
    let none : under c.args.name c.self.inside.buffers ≡ None = subst (λ (s : Standing). under c.args.name s.buffers ≡ None) (sym c.self.view_is) c.requires.new in
    rw c.in_ok-add.ensures.ok
    (holds_buffer c.self.inside.buffers c.self.inside.sessions.entries c.args.name c.args.buffer c.self.invariant none c.requires.small)
