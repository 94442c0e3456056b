use Rattle.std.specs.Prelude.{Option, ◌+ℤ◌, ℤ, List, map}
use Rattle.dt_map.specs.declared.entry.Entry.{Entry}
use Rattle.dt_offsets.specs.declared.marks.Marks.{Marks}

-- a typemap (MPI 4.1, section 5.1) with its lower and upper marks, where it has them (section 5.1.6)
pub record Marked : Type 0 where
  pub entries : List Entry
  pub marks : Option Marks

-- an entry x bytes further on
abbrev pub shift_entry : ℤ → Entry → Entry
shift_entry x e = record { kind = e.kind; disp = e.disp +ℤ x }

-- a typemap x bytes further on
abbrev pub shift : ℤ → List Entry → List Entry
shift x entries = map (shift_entry x) entries
