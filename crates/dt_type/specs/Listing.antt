use Rattle.std.specs.Prelude.{ℤ, List}
use Rattle.std.specs.List.{AllByRecursion, flat_map}
use Rattle.dt_kinds.specs.Displacement.{FitsDisp}
use Rattle.dt_map.specs.declared.entry.Entry.{Entry}
use Rattle.dt_map.specs.Typemap.{shift}

-- a copy of entries at each offset
abbrev pub entries_at : List ℤ → List Entry → List Entry
entries_at offsets entries = flat_map (λ x. shift x entries) offsets

-- whether each displacement fits
abbrev pub HaveDisps : List Entry → Type 0
HaveDisps entries = AllByRecursion (λ e. FitsDisp e.disp) entries
