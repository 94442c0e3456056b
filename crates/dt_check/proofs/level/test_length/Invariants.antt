use Rattle.dt_check.specs.Levels.{IsKnownLevel}
use Rattle.dt_check.specs.Rows.{table_in}
use Rattle.dt_check.proofs.level.test_length.Given as goal

abbrev pub invariant-starts : goal.invariant-starts
invariant-starts l = IsKnownLevel l.w l.classes (table_in l.values) l.len l.start l.level
