use Rattle.std.proofs.Common.{◌≡◌, ◌-◌}
use Rattle.dt_wire.specs.Reading.{list_at}
use Rattle.dt_wire.proofs.Prefixed.{prefixed}
use Rattle.dt_wire.proofs.lists.each.Given as goal

abbrev pub invariant-items : goal.invariant-items
invariant-items g l = list_at g.T.Field.read_at l.n l.bytes ≡ prefixed l.items (list_at g.T.Field.read_at (l.n - l.counter) l.rest)
