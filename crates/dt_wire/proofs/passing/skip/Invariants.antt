use Rattle.std.proofs.Common.{◌≡◌, ◌-◌}
use Rattle.dt_wire.specs.Skipping.{skip_byte, times}
use Rattle.dt_wire.proofs.passing.skip.Given as goal

abbrev pub invariant-each : goal.invariant-each
invariant-each l = times skip_byte l.n l.bytes ≡ times skip_byte (l.n - l.counter) l.rest
