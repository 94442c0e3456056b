use Rattle.std.proofs.Common.{◌≡◌, sym, ◌∙◌, arith}
use Rattle.dt_gen.specs.Script.{rounds_at}
use Rattle.dt_gen.proofs.Loops.{after, rounds_more, rounds_end}
use Rattle.dt_gen.proofs.generating.push_rounds.Goals as goal

pub rounds-preserved : goal.rounds-preserved
rounds-preserved c =
    rw (c.in_ok-push_round.ensures.text, c.in_ok-push_round.ensures.moved)
    (sym (rounds_more 100 c.rounds.number c.rounds.out.items c.rounds.draws (omega arith)) ∙ c.rounds.invariant)

pub returns-clause-text : goal.returns-clause-text
returns-clause-text c =
    let last : c.rounds.number ≡ 100 = omega arith in
    (rounds_end 100 c.rounds.number c.rounds.out.items c.rounds.draws (after c.args.out.now.items c.args.draws.now (rounds_at 100 0)) last c.rounds.invariant).0

pub returns-clause-moved : goal.returns-clause-moved
returns-clause-moved c =
    let last : c.rounds.number ≡ 100 = omega arith in
    (rounds_end 100 c.rounds.number c.rounds.out.items c.rounds.draws (after c.args.out.now.items c.args.draws.now (rounds_at 100 0)) last c.rounds.invariant).1
