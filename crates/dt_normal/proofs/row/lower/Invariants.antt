use Rattle.dt_normal.proofs.Rowing.{Lowered}
use Rattle.dt_normal.proofs.row.lower.Given as goal

abbrev pub invariant-after : goal.invariant-after
invariant-after l = Lowered l.from l.price l.k l.after l.initial.costs l.costs
