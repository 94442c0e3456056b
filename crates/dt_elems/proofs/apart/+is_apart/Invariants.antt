use Rattle.std.specs.List.{AllByRecursion, flat_map}
use Rattle.std.proofs.Common.{◌≤ℤ◌, take}
use Rattle.dt_map.specs.declared.entry.Entry.{Entry}
use Rattle.dt_map.specs.Bounds.{end_of}
use Rattle.dt_type.specs.Datatype.{depth_of}
use Rattle.dt_type.proofs.Lookups.{part_entries}
use Rattle.dt_elems.specs.Apart.{AreApart}
use Rattle.dt_elems.proofs.apart.+is_apart.Given as goal

abbrev pub decreases-is_apart : goal.decreases-is_apart
decreases-is_apart l = depth_of l.ty.now

abbrev pub invariant-parts : goal.invariant-parts
invariant-parts l =
    AreApart (flat_map part_entries (take l.part-index l.part-items)) × AllByRecursion (λ (e : Entry). end_of e ≤ℤ l.next) (flat_map part_entries (take l.part-index l.part-items))
