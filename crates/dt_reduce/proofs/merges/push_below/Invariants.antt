use Rattle.std.proofs.Common.{◌≡◌, ◌++◌}
use Rattle.dt_offsets.specs.Offsets.{below}
use Rattle.dt_reduce.proofs.merges.push_below.Given as goal

-- the places up to here were appended
abbrev pub invariant-places : goal.invariant-places
invariant-places l = l.merges.items ≡ l.fn.merges.items ++ below l.place
