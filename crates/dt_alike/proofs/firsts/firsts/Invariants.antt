use Rattle.dt_alike.proofs.Filling.{Filled}
use Rattle.dt_alike.proofs.firsts.firsts.Given as goal

abbrev pub invariant-starts : goal.invariant-starts
invariant-starts l = Filled l.entries l.start l.k l.reaches l.firsts.items
