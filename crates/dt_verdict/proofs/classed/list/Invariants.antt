use Rattle.std.proofs.Common.{◌≡◌, length}
use Rattle.dt_normal.proofs.Listing.{lengths}
use Rattle.dt_verdict.specs.Classed.{own_value}
use Rattle.dt_verdict.proofs.classed.list.Given as goal

abbrev pub invariant-lengths : goal.invariant-lengths
invariant-lengths l = l.values.items ≡ lengths (length l.classes) (own_value l.classes l.numbers) l.k
