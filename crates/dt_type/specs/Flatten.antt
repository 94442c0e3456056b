use Rattle.std.specs.Prelude.{◌≡◌, ℕ, ◌≤◌, ◌<◌, length, Result, Ok, Err}
use Rattle.dt_map.specs.Typemap.{Marked}
use Rattle.dt_type.specs.declared.datatype.Seen.{Seen}
use Rattle.dt_type.specs.declared.fault.FlattenFault.{FlattenFault}
use Rattle.dt_type.specs.declared.fault.FlattenFault.TheVariants.{TooMany, NoMemory}
use Rattle.dt_type.specs.Datatype.{typemap_of, entries_of}

-- the answer of `flatten` where at most so many entries are wanted: the typemap with its marks, or that it has more entries
abbrev pub IsFlattened : Seen → ℕ → Result Marked FlattenFault → Type 0
IsFlattened t max (Ok m) = (m ≡ typemap_of t) × (length (entries_of t) ≤ max)
IsFlattened t max (Err TooMany) = max < length (entries_of t)
IsFlattened t max (Err NoMemory) = length (entries_of t) ≤ max
