use Rattle.std.proofs.Common.{◌≡◌, ◌++◌, take}
use Rattle.dt_type.specs.Listing.{entries_at}
use Rattle.dt_offsets.specs.Offsets.{grid_offsets}
use Rattle.dt_type.proofs.flatten.push_grid.Given as goal

-- the copies up to here are appended
abbrev pub invariant-copies : goal.invariant-copies
invariant-copies l = l.out.items ≡ l.fn.out.items ++ entries_at (take l.copy (grid_offsets l.turns)) l.one
