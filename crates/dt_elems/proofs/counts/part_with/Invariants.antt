use Rattle.std.specs.List.{flat_map}
use Rattle.std.proofs.Common.{◌≡◌, ◌+◌, ◌<◌, drop}
use Rattle.dt_map.specs.Packed.{total}
use Rattle.dt_map.specs.Setting.{done}
use Rattle.dt_type.specs.Shape.{placed_parts}
use Rattle.dt_type.proofs.Lookups.{part_entries}
use Rattle.dt_elems.proofs.counts.part_with.Given as goal

-- the bytes that are left end in the parts that are left, and the elements before these are counted
abbrev pub invariant-loop-part : goal.invariant-loop-part
invariant-loop-part l =
    (l.before + done l.rep (flat_map part_entries (drop l.part-index l.parts)) l.left ≡ done l.rep (placed_parts l.parts).entries l.bytes)
    × (l.left < total l.rep (flat_map part_entries (drop l.part-index l.parts)))
