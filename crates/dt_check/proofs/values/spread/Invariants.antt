use Rattle.dt_check.specs.Spread.{AreSpread}
use Rattle.dt_check.proofs.values.spread.Given as goal

abbrev pub invariant-lengths : goal.invariant-lengths
invariant-lengths l = AreSpread l.classes l.k l.firsts l.rows.items
