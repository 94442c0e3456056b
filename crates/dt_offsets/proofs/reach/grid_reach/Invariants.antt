use Rattle.std.proofs.Common.{◌≡◌, take}
use Rattle.dt_offsets.specs.Reach.{reach}
use Rattle.dt_offsets.specs.Offsets.{grid_offsets}
use Rattle.dt_offsets.proofs.reach.grid_reach.Given as goal

abbrev pub invariant-loop-inner : goal.invariant-loop-inner
invariant-loop-inner l = l.reach ≡ reach (grid_offsets (take l.inner-index l.turns))
