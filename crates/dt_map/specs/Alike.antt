use Rattle.std.specs.Prelude.{ℕ, ◌+◌, ◌*◌, Bool, ◌&&◌, ◌+ℤ◌, ◌-ℤ◌, ◌*ℤ◌, ℤ, pos, List, [], ◌∷◌, take, drop}
use Rattle.std.specs.List.{list_all}
use Rattle.std.specs.Ordering.{int_eq}
use Rattle.std.specs.Str.{bytes_eq}
use Rattle.std.specs.Cmp.Lexicographic.{pointwise}
use Rattle.dt_kinds.specs.Kind.{name_of}
use Rattle.dt_map.specs.declared.entry.Entry.{Entry}
use Rattle.dt_offsets.specs.Offsets.{below}
use Rattle.dt_map.specs.Typemap.{shift}
use Rattle.dt_map.specs.Runs.{natural_extent}

-- so many entries from a place of the list on
abbrev pub segment : List Entry → ℕ → ℕ → List Entry
segment m start len = take len (drop start m)

-- block k of blocks of one length from a place on
abbrev pub block_of : List Entry → ℕ → ℕ → ℕ → List Entry
block_of m start len k = segment m (start + k * len) len

-- the displacement of the first entry, 0 without entries
abbrev pub first_disp : List Entry → ℤ
first_disp [] = pos 0
first_disp (e ∷ entries) = e.disp

-- entries with their displacements relative to the first one
abbrev pub relative : List Entry → List Entry
relative entries = shift (pos 0 -ℤ first_disp entries) entries

-- whether two entries are the same
abbrev pub same_entry : Entry → Entry → Bool
same_entry e f = bytes_eq (name_of e.kind) (name_of f.kind) && int_eq e.disp f.disp

-- whether entries are alike: their kinds are equal, and their displacements relative to their first entries (law `alike_decides`)
abbrev pub alike : List Entry → List Entry → Bool
alike es fs = pointwise same_entry (relative es) (relative fs)

-- whether blocks of one length are alike
abbrev pub are_alike : List Entry → ℕ → ℕ → ℕ → Bool
are_alike m start len count = list_all (λ k. alike (block_of m start len k) (segment m start len)) (below count)

-- whether the first displacements of blocks rise by one step, which may be negative
abbrev pub rise_by : ℤ → List Entry → ℕ → ℕ → ℕ → Bool
rise_by step m start len count =
    list_all (λ k. int_eq (first_disp (block_of m start len k)) (first_disp (segment m start len) +ℤ (pos k *ℤ step))) (below count)

-- whether blocks stand as copies of the first one in a block of a datatype do; one block always does
abbrev pub are_stacked : List Entry → ℕ → ℕ → ℕ → Bool
are_stacked m start len count = are_alike m start len count && rise_by (natural_extent (segment m start len)) m start len count
