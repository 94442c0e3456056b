use Rattle.std.specs.Prelude.{slice_get}
use Rattle.std.specs.List.{flat_map}
use Rattle.std.proofs.Common.{◌≡◌, drop}
use Rattle.dt_type.specs.Shape.{placed_parts}
use Rattle.dt_type.proofs.Lookups.{part_entries}
use Rattle.dt_type.proofs.entries.part_at.Given as goal

abbrev pub invariant-loop-part : goal.invariant-loop-part
invariant-loop-part l = slice_get (flat_map part_entries (drop l.part-index l.parts)) l.left ≡ slice_get (placed_parts l.parts).entries l.entry
