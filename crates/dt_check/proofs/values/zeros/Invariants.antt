use Rattle.dt_check.proofs.Rowed.{AreZeros}
use Rattle.dt_check.proofs.values.zeros.Given as goal

abbrev pub invariant-lengths : goal.invariant-lengths
invariant-lengths l = AreZeros l.len l.k l.rows.items
