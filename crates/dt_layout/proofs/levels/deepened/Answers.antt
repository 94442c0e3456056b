use Rattle.std.proofs.Common.{◌++◌, ◌∷◌, [], ◌∙◌, ap, subst, sym, rules}
use Rattle.dt_layout.specs.Merging.{StandIn}
use Rattle.dt_layout.proofs.Standing.{stand_none, stand_pushed, stand_one, last_turns}
use Rattle.dt_layout.proofs.levels.deepened.Goals as goal

pub returns-then-are_idle-clause-stand : goal.returns-then-are_idle-clause-stand
returns-then-are_idle-clause-stand c =
    let idle = c.if-are_idle.ensures.0 (search rules) in
    stand_none c.args.levels.items c.pop.new.self.items c.args.turns.now c.evened-turns.result c.in_default.ensures.items c.requires.levels c.evened-turns.ensures idle.0 idle.1

pub joined-requires-clause-outer : goal.joined-requires-clause-outer
joined-requires-clause-outer c = last_turns c.args.levels.items c.pop.new.self.items c.in-Some.last c.in-Some.ensures.items c.requires.levels

pub returns-in_default-joined-clause-stand : goal.returns-in_default-joined-clause-stand
returns-in_default-joined-clause-stand c =
    let made = c.in_ok-push-3.ensures.items ∙ ap (λ ls. ls ++ c.evened-turns.result ∷ []) c.in_ok-push-2.ensures.items in
    subst (StandIn (c.args.levels.items ++ c.args.turns.now ∷ [])) (sym made)
    (stand_pushed c.args.levels.items c.pop.new.self.items c.in-Some.last c.args.turns.now c.evened-turns.result c.in-Some.ensures.items c.requires.levels c.evened-turns.ensures)

pub returns-clause-stand : goal.returns-clause-stand
returns-clause-stand c =
    subst (StandIn (c.args.levels.items ++ c.args.turns.now ∷ [])) (sym c.in_ok-push-4.ensures.items)
    (stand_one c.args.levels.items c.pop.new.self.items c.in-Some.last c.args.turns.now c.evened-turns.result c.in-Some.ensures.items c.requires.levels c.evened-turns.ensures c.in-Some-joined.one
    c.in-Some-joined.ensures)
