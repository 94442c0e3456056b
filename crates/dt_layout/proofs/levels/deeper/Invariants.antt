use Rattle.std.proofs.Common.{◌<◌, ◌++◌, length, take}
use Rattle.dt_layout.specs.Merging.{StandIn}
use Rattle.dt_layout.proofs.levels.deeper.Given as goal

-- the levels up to here stand
abbrev pub invariant-turns : goal.invariant-turns
invariant-turns l = StandIn (l.fn.levels.items ++ take l.inner-index l.turns) l.levels.items × (0 < length l.fn.levels.items → 0 < length l.levels.items)
