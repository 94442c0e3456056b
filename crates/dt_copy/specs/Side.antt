-- One side of a copy: its elements byte for byte, from some byte on.
use Rattle.std.specs.Prelude.{◌≡◌, ℕ, ◌+◌, ◌-◌, ◌<◌, ◌≤◌, ℤ, pos, ◌+ℤ◌, IsTrue, List, take, drop, replicate, length}
use Rattle.std.specs.List.{flat_map}
use Rattle.dt_copy.specs.declared.side.Stretch.{Stretch}
use Rattle.dt_kinds.specs.declared.kind.Kind.{Kind}
use Rattle.dt_kinds.specs.declared.kind.Kind.TheVariants.{Byte}
use Rattle.dt_kinds.specs.declared.kind.Rep.{Rep}
use Rattle.dt_kinds.specs.declared.kind.Rep.TheVariants.{Native}
use Rattle.dt_kinds.specs.Kind.{native_size}
use Rattle.dt_map.specs.declared.entry.Entry.{Entry}
use Rattle.dt_map.specs.Elements.{are_inside}
use Rattle.dt_map.specs.Packed.{packed}
use Rattle.dt_rows.specs.declared.rows.Rows.{Rows}
use Rattle.dt_rows.specs.Rows.{adjacent, elements_of_rows, AreRows, bytes_in}
use Rattle.dt_rows.specs.Storing.{IsWhole}

-- the bytes of elements, each as an element of its own, in their order
abbrev pub bytes_of : List Entry → List Entry
bytes_of es = flat_map (λ e. adjacent Byte (native_size e.kind) e.disp) es

-- the kind of the element that has each of these bytes
abbrev pub kinds_of : List Entry → List Kind
kinds_of es = flat_map (λ e. replicate (native_size e.kind) e.kind) es

-- elements in a buffer of so many bytes, of whose bytes so many were passed
pub record Reader : Type 0 where
  pub elements : List Entry
  pub len : ℕ
  pub position : ℕ

-- a reader at another byte
abbrev pub at_byte : Reader → ℕ → Reader
at_byte r byte = record r { position = byte }

-- a reader so many bytes further on
abbrev pub onward : Reader → ℕ → Reader
onward r n = at_byte r (r.position + n)

-- the bytes that are still to come, how many these are, and the next n of them, of a buffer as it is now
abbrev pub to_come : Reader → List Entry
to_come r = drop r.position (bytes_of r.elements)

abbrev pub rest_of : Reader → ℕ
rest_of r = length (bytes_of r.elements) - r.position

abbrev pub next_bytes : Reader → List ℕ → ℕ → List ℕ
next_bytes r buffer n = packed Native (take n (to_come r)) buffer

-- a reader goes by the bytes in memory, and its elements lie in their buffer
pub record IsReader (r : Reader) (rep : Rep) : Type 0 where
  pub native : rep ≡ Native
  pub inside : IsTrue (are_inside r.len r.elements)
  pub small : r.len ≤ 16777216

-- rows as rows of the bytes that they name, from an origin on
abbrev pub bytes_at_rows : ℤ → Rows → Rows
bytes_at_rows origin r = record {
  run = record { kind = Byte; disp = (r.run.disp +ℤ origin) +ℤ pos r.run.skip; elements = r.run.bytes; skip = 0; bytes = r.run.bytes };
  rows = r.rows;
  step = r.step;
}

-- rows of bytes come next
pub record AreNextBytes (r : Reader) (rows : Rows) : Type 0 where
  pub shape : AreRows Native rows
  pub whole : IsWhole Native rows.run
  pub bytes : take (bytes_in rows) (to_come r) ≡ elements_of_rows rows
  pub inside : IsTrue (are_inside r.len (elements_of_rows rows))
  pub small : r.len ≤ 16777216
  pub within : r.position + bytes_in rows ≤ length (bytes_of r.elements)

-- bytes of elements of one kind come next
pub record IsNextStretch (r : Reader) (s : Stretch) : Type 0 where
  pub some : 0 < s.bytes
  pub kinds : take s.bytes (drop r.position (kinds_of r.elements)) ≡ replicate s.bytes s.kind
  pub within : r.position + s.bytes ≤ length (kinds_of r.elements)
