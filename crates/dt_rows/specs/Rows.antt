-- Rows of adjacent elements.
use Rattle.std.specs.Prelude.{◌≡◌, ℕ, ◌+◌, ◌*◌, ◌<◌, ◌≤◌, ℤ, pos, List, map, take, drop}
use Rattle.std.specs.List.{flat_map}
use Rattle.dt_kinds.specs.declared.kind.Kind.{Kind}
use Rattle.dt_kinds.specs.declared.kind.Rep.{Rep}
use Rattle.dt_kinds.specs.Kind.{native_size, packed_size}
use Rattle.dt_map.specs.declared.entry.Entry.{Entry}
use Rattle.dt_map.specs.Packed.{packed}
use Rattle.dt_map.specs.Typemap.{shift}
use Rattle.dt_offsets.specs.Offsets.{row_offsets}
use Rattle.dt_rows.specs.declared.rows.Rows.{Rows}
use Rattle.dt_rows.specs.declared.rows.Run.{Run}

-- an element of a kind at a displacement
abbrev pub element_at : Kind → ℤ → Entry
element_at kind x = record { kind = kind; disp = x }

-- adjacent elements of a kind, the first of them at a displacement
abbrev pub adjacent : Kind → ℕ → ℤ → List Entry
adjacent kind elements x = map (element_at kind) (row_offsets x elements (pos (native_size kind)))

-- the elements of rows, row after row
abbrev pub elements_of_rows : Rows → List Entry
elements_of_rows r = flat_map (adjacent r.run.kind r.run.elements) (row_offsets r.run.disp r.rows r.step)

-- the bytes of a run lie in its elements, each of which has one of them at least
pub record IsRun (rep : Rep) (run : Run) : Type 0 where
  pub some : 0 < run.bytes
  pub skip : run.skip < packed_size rep run.kind
  pub within : run.skip + run.bytes ≤ run.elements * packed_size rep run.kind
  pub each : run.elements * packed_size rep run.kind < run.skip + run.bytes + packed_size rep run.kind

-- rows: at least one; and where there are more, the bytes are all those of the elements
pub record AreRows (rep : Rep) (r : Rows) : Type 0 where
  pub some : 0 < r.rows
  pub run : IsRun rep r.run
  pub whole : 1 < r.rows → (r.run.skip ≡ 0) × (r.run.bytes ≡ r.run.elements * packed_size rep r.run.kind)

-- how many packed bytes rows name
abbrev pub bytes_in : Rows → ℕ
bytes_in r = r.rows * r.run.bytes

-- the packed bytes that rows name, of a buffer in which their elements lie from an origin on
abbrev pub packed_rows : Rep → Rows → ℤ → List ℕ → List ℕ
packed_rows rep r origin buffer = take (bytes_in r) (drop r.run.skip (packed rep (shift origin (elements_of_rows r)) buffer))
