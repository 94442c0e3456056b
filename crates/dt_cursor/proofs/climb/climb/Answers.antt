use Rattle.std.proofs.Common.{length, subst}
use Rattle.dt_cursor.specs.Frames.{ToCome}
use Rattle.dt_cursor.proofs.Climbing.{ends, goes_on}
use Rattle.dt_cursor.proofs.Options.{none_is}
use Rattle.dt_cursor.proofs.climb.climb.Goals as goal

pub next_round-requires : goal.next_round-requires
next_round-requires c =
    let r = c.requires in
    let come = subst (λ fs. ToCome c.args.program.now fs r.0) c.in-Some.ensures.some (c.levels.invariant r.0 r.1) in
    (length c.pop.new.self, come.0, come.1, come.3)

pub enter-requires : goal.enter-requires
enter-requires c =
    let r = c.requires in
    let come = subst (λ fs. ToCome c.args.program.now fs r.0) c.in-Some.ensures.some (c.levels.invariant r.0 r.1) in
    let next = c.in-Some-next_round.ensures.some come.0 (length c.pop.new.self) come.1 come.3 in
    let on = goes_on c.args.program.now c.in-Some.frame c.pop.new.self r.0 come c.in-Some-next_round.next next in
    (on.0, r.0, on.1, on.2)

pub returns-in-Some-next_round : goal.returns-in-Some-next_round
returns-in-Some-next_round c es here =
    let come = subst (λ fs. ToCome c.args.program.now fs es) c.in-Some.ensures.some (c.levels.invariant es here) in
    let next = c.in-Some-next_round.ensures.some come.0 (length c.pop.new.self) come.1 come.3 in
    let on = goes_on c.args.program.now c.in-Some.frame c.pop.new.self es come c.in-Some-next_round.next next in
    c.enter.ensures on.0 es on.1 on.2

pub levels-preserved : goal.levels-preserved
levels-preserved c = λ es here.
    let come = subst (λ fs. ToCome c.args.program.now fs es) c.in-Some.ensures.some (c.levels.invariant es here) in
    let none = none_is c.next_round.result _ c.in_default-next_round.not-Some c.next_round.ensures.none in
    ends c.args.program.now c.in-Some.frame c.pop.new.self es come (none come.0 (length c.pop.new.self) come.1 come.3)
