use Rattle.std.proofs.Common.{length}
use Rattle.dt_check.proofs.Rowed.{AreValues}
use Rattle.dt_check.proofs.values.values.Given as goal

abbrev pub invariant-lows : goal.invariant-lows
invariant-lows l = AreValues (length l.classes) l.k l.lows l.rows.items
