use Rattle.std.proofs.Common.{◌≡◌, ◌-◌, sym, ap, arith}
use Rattle.dt_gen.specs.Script.{turns_at}
use Rattle.dt_gen.proofs.Loops.{after, turned_more, turned_end}
use Rattle.dt_gen.proofs.turns.push_turns.Goals as goal

pub turns-init : goal.turns-init
turns-init c =
    let whole : c.args.total - 0 ≡ c.args.total = omega arith in
    record {
      turns = c.args.total;
      within = omega arith;
      enough = omega arith;
      same = ap (λ k. after c.args.out.now.items c.args.draws.now (turns_at c.args.total c.args.number 0 k)) whole;
    }

pub turns-preserved : goal.turns-preserved
turns-preserved c =
    rw (c.in_ok-push_turn.ensures, c.below-asked.ensures.drawn, c.below-asked.ensures.moved)
    (turned_more c.args.number c.turns.given c.args.total c.turns.out.items c.turns.draws c.args.out.now.items c.args.draws.now c.min-len.result (omega arith)
    (rw c.below-asked.ensures.drawn at c.min-len.ensures) c.turns.invariant)

pub returns-clause-text : goal.returns-clause-text
returns-clause-text c =
    (turned_end c.args.number c.turns.given c.args.total c.turns.out.items c.turns.draws c.args.out.now.items c.args.draws.now (omega arith) c.turns.invariant).0

pub returns-clause-moved : goal.returns-clause-moved
returns-clause-moved c =
    (turned_end c.args.number c.turns.given c.args.total c.turns.out.items c.turns.draws c.args.out.now.items c.args.draws.now (omega arith) c.turns.invariant).1
