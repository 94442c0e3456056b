use Rattle.std.proofs.Common.{◌≡◌, ◌++◌}
use Rattle.dt_normal.specs.Lows.{AreLeastCosts}
use Rattle.dt_normal.specs.Table.{Table}
use Rattle.dt_normal.proofs.Listing.{front}
use Rattle.dt_normal.proofs.greatest.list_length.Given as goal

abbrev pub invariant-starts : goal.invariant-starts
invariant-starts l = (table : Table) → AreLeastCosts l.w l.classes table → l.lows.items ≡ l.initial.lows.items ++ front table l.len l.start
