use Rattle.dt_alike.proofs.Knowing.{Known}
use Rattle.dt_alike.proofs.row.row.Given as goal

abbrev pub invariant-lengths : goal.invariant-lengths
invariant-lengths l = Known l.entries l.start l.k l.row.items
