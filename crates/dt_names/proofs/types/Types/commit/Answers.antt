use Rattle.std.proofs.Common.{sym}
use Rattle.dt_names.proofs.StandingLemmas.{none_under, stale_not, no_fault, holds_set, with_set}
use Rattle.dt_names.proofs.types.Types.commit.Goals as goal

pub unreachable-requires : goal.unreachable-requires
unreachable-requires c = c.requires (none_under c.self.invariant c.self.view_is c.args.name.now (sym c.in_default.ensures.value))

pub unreachable-requires-in_default-commit : goal.unreachable-requires-in_default-commit
unreachable-requires-in_default-commit c =
    let at = sym c.in-Some.ensures.value in
    let live = stale_not c.self.invariant c.self.view_is c.args.name.now c.in-Some.handle.now at in
    no_fault c.commit.result c.in_default-commit.field-0 c.in_default-commit.is (λ is. live (c.commit.ensures.stale.0 is)) c.commit.ensures.basic

pub invariant_of-self : goal.invariant_of-self
invariant_of-self c =
    let at = sym c.in-Some.ensures.value in
    holds_set c.self.invariant c.self.view_is c.args.name.now c.in-Some.handle.now at c.commit.new.self c.in-Ok.ensures.committed c.commit.ensures.count

pub returns : goal.returns
returns c =
    let at = sym c.in-Some.ensures.value in
    λ kept. with_set c.self.invariant c.self.view_is c.args.name.now c.in-Some.handle.now at c.commit.new.self kept c.in-Ok.ensures.committed
