use Rattle.std.proofs.Common.{arith, refl}
use Rattle.dt_offsets.proofs.Products.{factor_back}
use Rattle.dt_cursor.proofs.Evenly.{rest_in_block, rest_of_blocks}
use Rattle.dt_cursor.proofs.level.turns_left.Goals as goal

pub returns-then-turns-left-clause-rest : goal.returns-then-turns-left-clause-rest
returns-then-turns-left-clause-rest c =
    let t = c.args.turns.now in
    let lawful = c.requires.turns in
    rest_of_blocks t c.args.turn (let least = lawful.least in omega (arith, least)) c.if-done-eq0.true c.if-turns-left.true _ refl refl (factor_back t.jump lawful.jump) (factor_back t.step lawful.step)

pub returns-clause-rest : goal.returns-clause-rest
returns-clause-rest c =
    let t = c.args.turns.now in
    let lawful = c.requires.turns in
    rest_in_block t c.args.turn (let least = lawful.least in omega (arith, least)) c.requires.within _ c.min.ensures refl (factor_back t.jump lawful.jump) (factor_back t.step lawful.step)
