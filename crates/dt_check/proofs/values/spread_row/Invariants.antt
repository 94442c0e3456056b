use Rattle.dt_check.specs.Spread.{IsSpread}
use Rattle.dt_check.proofs.values.spread_row.Given as goal

abbrev pub invariant-starts : goal.invariant-starts
invariant-starts l = IsSpread l.classes l.len l.start l.row l.spread.items
