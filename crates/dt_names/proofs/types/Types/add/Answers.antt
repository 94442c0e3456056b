use Rattle.std.proofs.Common.{rules}
use Rattle.dt_names.proofs.StandingLemmas.{absent_under, holds_made, with_made, kept_said}
use Rattle.dt_names.proofs.types.Types.add.Goals as goal

pub unreachable-requires : goal.unreachable-requires
unreachable-requires c =
    let absent = absent_under c.self.invariant c.self.view_is c.args.name c.requires.new in
    absent (rw c.in_default.is at c.in_ok-place.ensures.found).0

pub invariant_of-self-2 : goal.invariant_of-self-2
invariant_of-self-2 c =
    holds_made c.self.invariant c.self.view_is c.args.name c.add.new.self c.in-Ok.handle _ _ c.in-Ok.ensures.made c.in-Ok.ensures.count c.requires.new (search rules)

pub returns-clause-ok : goal.returns-clause-ok
returns-clause-ok c =
    let same = kept_said c.self.inside.registry.made c.args.kept c.requires.basic in
    with_made c.self.invariant c.self.view_is c.args.name c.add.new.self c.in-Ok.handle _ c.args.kept _ c.in-Ok.ensures.made same (search rules)
