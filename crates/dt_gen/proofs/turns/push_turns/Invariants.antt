use Rattle.std.proofs.Common.{◌-◌}
use Rattle.dt_gen.proofs.Loops.{Turned}
use Rattle.dt_gen.proofs.turns.push_turns.Given as goal

abbrev pub invariant-turns : goal.invariant-turns
invariant-turns l = Turned l.number l.given l.total l.out.items l.draws l.fn.out.items l.fn.draws

abbrev pub decreases-turns : goal.decreases-turns
decreases-turns l = l.total - l.given
