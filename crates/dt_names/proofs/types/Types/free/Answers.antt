use Rattle.std.proofs.Common.{rules, sym, ap, ◌∙◌}
use Rattle.dt_names.proofs.StandingLemmas.{seen, stale_not, not_basic, no_fault, holds_removed, without, without_none}
use Rattle.dt_names.proofs.types.Types.free.Goals as goal

pub unreachable-requires : goal.unreachable-requires
unreachable-requires c =
    let at = sym c.in-Some.ensures.value in
    let live = stale_not c.self.invariant c.self.view_is c.args.name.now c.in-Some.handle at in
    let plain = not_basic c.self.invariant c.self.view_is c.args.name.now c.in-Some.handle at c.requires in
    no_fault c.free.result c.in_default-free.field-0 c.in_default-free.is (λ is. live (c.free.ensures.stale.0 is)) (λ is. plain (c.free.ensures.basic.0 is))

pub invariant_of-self : goal.invariant_of-self
invariant_of-self c =
    let at = sym c.in-Some.ensures.value in
    rw c.in-Some.ensures.entries
    (holds_removed c.self.invariant c.self.view_is c.args.name.now c.in-Some.handle at c.free.new.self c.in-Ok.ensures.gone c.in-Ok.ensures.count)

pub returns-in-Ok : goal.returns-in-Ok
returns-in-Ok c =
    let at = sym c.in-Some.ensures.value in
    let is = without c.self.invariant c.self.view_is c.args.name.now c.in-Some.handle at c.free.new.self c.in-Ok.ensures.gone in
    search (rules, ap (seen c.free.new.self) c.in-Some.ensures.entries ∙ is)

pub returns-in_default : goal.returns-in_default
returns-in_default c =
    ap (seen c.self.inside.registry) c.in_default.ensures.unchanged
    ∙ without_none c.self.invariant c.self.view_is c.args.name.now (sym c.in_default.ensures.value)
