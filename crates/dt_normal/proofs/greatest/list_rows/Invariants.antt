use Rattle.std.proofs.Common.{◌≡◌, length}
use Rattle.dt_normal.specs.Lows.{AreLeastCosts}
use Rattle.dt_normal.specs.Table.{Table}
use Rattle.dt_normal.proofs.Listing.{lengths}
use Rattle.dt_normal.proofs.greatest.list_rows.Given as goal

abbrev pub invariant-lengths : goal.invariant-lengths
invariant-lengths l = (table : Table) → AreLeastCosts l.w l.classes table → l.lows.items ≡ lengths (length l.classes) table l.k
