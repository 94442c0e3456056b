use Rattle.std.proofs.Common.{refl, subst}
use Rattle.dt_registry.specs.declared.registry.Handle.{Handle}
use Rattle.dt_registry.specs.Registry.{Sets, committed_at}
use Rattle.dt_space.specs.Live.{Commits}
use Rattle.dt_space.specs.Space.{Space}
use Rattle.dt_space.proofs.Numbers.{commits}
use Rattle.dt_space.proofs.space.Space.commit.Goals as goal

pub returns : goal.returns
returns c =
    let old : Space = record { types = c.self.inside.types; sessions = c.self.inside.sessions.entries; begun = c.self.inside.begun } in
    let new : Space = record { types = c.commit.new.self; sessions = c.self.inside.sessions.entries; begun = c.self.inside.begun } in
    subst (λ (s : Space). Commits s new c.args.number) c.self.view_is
    (commits old new c.args.number c.if-number-eq-BASIC.false
    (subst (λ (h : Handle). Sets old.types new.types h (committed_at old.types h)) c.handle_of.ensures c.in_ok-commit.ensures.committed) refl refl)
