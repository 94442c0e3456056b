use Rattle.std.proofs.Common.{◌≡◌, ◌+◌, ◌*◌, ◌-◌}
use Rattle.std.specs.List.{AllByRecursion}
use Rattle.dt_wire.specs.Building.{calls_among, type_at}
use Rattle.dt_wire.specs.Import.{IsTaken}
use Rattle.dt_wire.specs.Reading.{list_at, part_at}
use Rattle.dt_wire.proofs.Prefixed.{prefixed}
use Rattle.dt_wire.proofs.building.+forms.Given as goal

abbrev pub decreases-build : goal.decreases-build
decreases-build l = 6 * l.levels

abbrev pub decreases-part : goal.decreases-part
decreases-part l = 6 * l.levels + 1

abbrev pub decreases-of_one : goal.decreases-of_one
decreases-of_one l = 6 * l.levels + 1

abbrev pub decreases-each_part : goal.decreases-each_part
decreases-each_part l = 6 * l.levels + 2

abbrev pub decreases-parts : goal.decreases-parts
decreases-parts l = 6 * l.levels + 3

abbrev pub decreases-of_parts : goal.decreases-of_parts
decreases-of_parts l = 6 * l.levels + 4

abbrev pub decreases-layer : goal.decreases-layer
decreases-layer l = 6 * l.levels + 5

abbrev pub invariant-each_part-parts : goal.invariant-each_part-parts
invariant-each_part-parts l = record {
  read : list_at (part_at (type_at l.levels)) l.n l.bytes ≡ prefixed l.parts (list_at (part_at (type_at l.levels)) (l.n - l.counter) l.rest);
  taken : AllByRecursion IsTaken (calls_among l.levels l.parts);
}
