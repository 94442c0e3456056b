use Rattle.std.proofs.Common.{◌≡◌, refl, subst, Some, None}
use Rattle.dt_registry.specs.declared.registry.Handle.{Handle}
use Rattle.dt_registry.specs.Registry.{Sets, type_at}
use Rattle.dt_space.specs.Live.{Frees}
use Rattle.dt_space.specs.Space.{Space}
use Rattle.dt_space.proofs.Numbers.{frees, stands_basic, not_basic}
use Rattle.dt_space.proofs.space.Space.free.Goals as goal

pub returns-then-number-eq-BASIC : goal.returns-then-number-eq-BASIC
returns-then-number-eq-BASIC c = (refl, stands_basic c.args.self.now c.args.number c.in_ok-kind_at.field-0 c.if-number-eq-BASIC.true c.in_ok-kind_at.ensures)

pub returns : goal.returns
returns c =
    let old : Space = record { types = c.self.inside.types; sessions = c.self.inside.sessions.entries; begun = c.self.inside.begun } in
    let new : Space = record { types = c.free.new.self; sessions = c.self.inside.sessions.entries; begun = c.self.inside.begun } in
    let at = subst (λ (h : Handle). type_at old.types h ≡ Some c.in_ok-free.field-0) c.handle_of.ensures c.in_ok-free.ensures.freed in
    subst (λ (s : Space). Frees s new c.args.number) c.self.view_is
    (frees old new c.args.number c.in_ok-free.field-0 c.if-number-eq-BASIC.false at
    (not_basic old.types c.handle_of.result c.in_ok-free.field-0 c.free.result c.in_ok-free.ensures.freed c.in_ok-free.was c.free.ensures.basic)
    (subst (λ (h : Handle). Sets old.types new.types h None) c.handle_of.ensures c.in_ok-free.ensures.gone) refl refl)
