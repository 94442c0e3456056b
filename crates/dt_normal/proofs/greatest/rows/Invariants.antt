use Rattle.std.proofs.Common.{◌≡◌, length}
use Rattle.dt_normal.specs.Known.{AreRows}
use Rattle.dt_normal.proofs.greatest.rows.Given as goal

abbrev pub invariant-starts : goal.invariant-starts
invariant-starts l = record {
  each : length l.rows.items ≡ l.k;
  rows : AreRows l.w l.classes l.rows.items;
}
