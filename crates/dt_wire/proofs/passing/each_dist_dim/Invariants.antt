use Rattle.std.proofs.Common.{◌≡◌, ◌-◌}
use Rattle.dt_wire.specs.Skipping.{skip_dist_dim, times}
use Rattle.dt_wire.proofs.passing.each_dist_dim.Given as goal

abbrev pub invariant-dims : goal.invariant-dims
invariant-dims l = times skip_dist_dim l.n l.bytes ≡ times skip_dist_dim (l.n - l.counter) l.rest
