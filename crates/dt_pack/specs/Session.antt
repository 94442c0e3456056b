-- Pack sessions: the packed bytes of an operation (MPI 4.1, section 5.2), taken in pieces.
use Rattle.std.specs.Prelude.{ℕ, ◌+◌, ◌-◌, ◌<◌, ◌≤◌, ℤ, pos, IsTrue, List, take, drop}
use Rattle.dt_cursor.specs.Walk.{Walk}
use Rattle.dt_kinds.specs.declared.kind.Rep.{Rep}
use Rattle.dt_map.specs.declared.entry.Entry.{Entry}
use Rattle.dt_map.specs.Elements.{elements, are_inside}
use Rattle.dt_map.specs.Packed.{packed, total}
use Rattle.dt_map.specs.Typemap.{Marked, shift}

-- a session: the representation; the elements of the operation as it would begin at 0; the place in the buffer at which it begins;
-- how many bytes the buffer has; and how many packed bytes were taken
pub record Session : Type 0 where
  pub rep : Rep
  pub elements : List Entry
  pub origin : ℤ
  pub buf_len : ℕ
  pub position : ℕ

-- the elements in the buffer
abbrev pub placed : Session → List Entry
placed s = shift s.origin s.elements

-- how many packed bytes there are in all, and how many of them are still to come
abbrev pub total_of : Session → ℕ
total_of s = total s.rep s.elements

abbrev pub rest_of : Session → ℕ
rest_of s = total_of s - s.position

-- the next n packed bytes, of a buffer as it is now
abbrev pub next_bytes : Session → List ℕ → ℕ → List ℕ
next_bytes s buffer n = take n (drop s.position (packed s.rep (placed s) buffer))

-- a session at another packed byte
abbrev pub at_byte : Session → ℕ → Session
at_byte s byte = record s { position = byte }

-- a session from which n bytes more were taken
abbrev pub after : Session → ℕ → Session
after s n = at_byte s (s.position + n)

-- a session as it is opened
abbrev pub opened : Marked → ℕ → Rep → ℤ → ℕ → Session
opened m count rep origin buf_len = record { rep = rep; elements = elements m count (pos 0); origin = origin; buf_len = buf_len; position = 0 }

-- where a session stands: a walk through its elements, as they lie where the operation begins at 0
abbrev pub walk_of : Session → Walk
walk_of s = record { elements = s.elements; rep = s.rep; position = s.position }

-- limits of a session: a buffer, and packed bytes, of at most 16 MiB; the elements lie in the buffer
pub record IsLimited (s : Session) : Type 0 where
  pub inside : IsTrue (are_inside s.buf_len (placed s))
  pub small : s.buf_len ≤ 16777216
  pub few : total_of s ≤ 16777216

-- elements that lie in the buffer and have too many packed bytes
pub record IsTooLarge (m : Marked) (count : ℕ) (rep : Rep) (origin : ℤ) (buf_len : ℕ) : Type 0 where
  pub inside : IsTrue (are_inside buf_len (elements m count origin))
  pub large : 16777216 < total rep (elements m count origin)
