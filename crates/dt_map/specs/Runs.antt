use Rattle.std.specs.Prelude.{None, ℕ, ◌*ℤ◌, ℤ, pos, List, map}
use Rattle.std.specs.List.{flat_map}
use Rattle.dt_map.specs.declared.entry.Entry.{Entry}
use Rattle.dt_offsets.specs.Offsets.{below}
use Rattle.dt_map.specs.Typemap.{shift}
use Rattle.dt_map.specs.Bounds.{extent_of}

-- how far apart copies of entries stand in a block: the extent that they have without marks (MPI 4.1, section 5.1)
abbrev pub natural_extent : List Entry → ℤ
natural_extent entries = extent_of (record { entries = entries; marks = None })

-- entries placed at each of some places, one after another
abbrev pub placed_at : List ℤ → List Entry → List Entry
placed_at places entries = flat_map (λ x. shift x entries) places

-- places with an even step, from 0 on
abbrev pub even : ℕ → ℤ → List ℤ
even count step = map (λ i. pos i *ℤ step) (below count)

-- a block of so many copies (MPI 4.1, section 5.1.2), each a natural extent further on
abbrev pub run : ℕ → List Entry → List Entry
run block entries = placed_at (even block (natural_extent entries)) entries
