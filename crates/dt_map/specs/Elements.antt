use Rattle.std.specs.Prelude.{ℕ, ◌<◌, Bool, ◌&&◌, ◌+ℤ◌, ◌*ℤ◌, ℤ, ◌≤ℤ◌, ◌<ℤ◌, pos, int_le, List, length}
use Rattle.std.specs.List.{flat_map, list_all, HoldsAt}
use Rattle.dt_map.specs.declared.entry.Entry.{Entry}
use Rattle.dt_offsets.specs.Offsets.{below}
use Rattle.dt_map.specs.Typemap.{Marked, shift}
use Rattle.dt_map.specs.Bounds.{extent_of, end_of}

-- copies of entries from the origin on, copy i further on by i extents
abbrev pub copies : List Entry → ℤ → ℕ → ℤ → List Entry
copies entries extent count origin = flat_map (λ i. shift (origin +ℤ (pos i *ℤ extent)) entries) (below count)

-- the elements of an operation on count copies of a type (MPI 4.1, sections 3.2.2 and 5.1). An element is an entry whose
-- displacement is its place in the buffer
abbrev pub elements : Marked → ℕ → ℤ → List Entry
elements m count origin = copies m.entries (extent_of m) count origin

-- whether each byte of an element lies in a buffer of so many bytes (MPI 4.1, section 5.1.11)
abbrev pub lies_inside : ℕ → Entry → Bool
lies_inside len e = int_le (pos 0) e.disp && int_le (end_of e) (pos len)

-- whether each element does
abbrev pub are_inside : ℕ → List Entry → Bool
are_inside len es = list_all (lies_inside len) es

-- a byte of an element
abbrev pub IsByteOf : ℤ → Entry → Type 0
IsByteOf x e = (e.disp ≤ℤ x) × (x <ℤ end_of e)

-- two different places of the list name elements with a common byte, as none may that are received (MPI 4.1, section 5.1.11)
abbrev pub Overlaps : List Entry → Type 0
Overlaps es = (i : ℕ) × (j : ℕ) × (x : ℤ) × (i < j) × (j < length es) × HoldsAt (IsByteOf x) es i × HoldsAt (IsByteOf x) es j
