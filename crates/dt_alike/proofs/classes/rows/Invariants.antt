use Rattle.dt_alike.proofs.Knowing.{Rows}
use Rattle.dt_alike.proofs.classes.rows.Given as goal

abbrev pub invariant-starts : goal.invariant-starts
invariant-starts l = Rows l.entries l.k l.reaches.items l.rows.items
