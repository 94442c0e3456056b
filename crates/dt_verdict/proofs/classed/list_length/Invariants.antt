use Rattle.std.proofs.Common.{◌≡◌, ◌++◌}
use Rattle.dt_normal.proofs.Listing.{front}
use Rattle.dt_verdict.specs.Classed.{own_value}
use Rattle.dt_verdict.proofs.classed.list_length.Given as goal

abbrev pub invariant-starts : goal.invariant-starts
invariant-starts l = l.values.items ≡ l.initial.values.items ++ front (own_value l.classes l.numbers) l.len l.start
