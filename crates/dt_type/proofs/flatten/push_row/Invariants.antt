use Rattle.std.proofs.Common.{◌≡◌, ◌++◌}
use Rattle.dt_type.specs.Listing.{entries_at}
use Rattle.dt_offsets.specs.Offsets.{row_offsets}
use Rattle.dt_type.proofs.flatten.push_row.Given as goal

-- the copies up to here are appended
abbrev pub invariant-copies : goal.invariant-copies
invariant-copies l = l.out.items ≡ l.fn.out.items ++ entries_at (row_offsets l.first l.copy l.step) l.one
