use Rattle.dt_check.specs.Levels.{AreKnown}
use Rattle.dt_check.specs.Rows.{table_in}
use Rattle.dt_check.proofs.failing.failing_in.Given as goal

abbrev pub invariant-lengths : goal.invariant-lengths
invariant-lengths l = AreKnown l.w l.classes (table_in l.values) l.k l.sums
