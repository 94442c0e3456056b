use Rattle.std.proofs.Common.{◌≡◌, take, map}
use Rattle.std.specs.List.{AllByRecursion}
use Rattle.dt_type.specs.Conditions.{IsShapePart}
use Rattle.dt_ctor.specs.Rows.{part_row}
use Rattle.dt_ctor.proofs.parts.rows_of.Given as goal

abbrev pub invariant-loop-part : goal.invariant-loop-part
invariant-loop-part l = (l.rows ≡ map part_row (take l.part-index l.parts)) × AllByRecursion IsShapePart l.rows
