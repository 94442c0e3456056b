use Rattle.dt_check.proofs.Lowering.{Lowered}
use Rattle.dt_check.proofs.sums.lower.Given as goal

abbrev pub invariant-least : goal.invariant-least
invariant-least l = Lowered l.firsts l.rests l.from l.i l.initial.least l.least
