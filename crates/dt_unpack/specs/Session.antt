-- Unpack sessions: packed bytes (MPI 4.1, section 5.2) that are given in pieces.
use Rattle.std.specs.Prelude.{◌≡◌, ℕ, ◌+◌, ◌-◌, ◌≤◌, ℤ, pos, IsTrue, List, [], ◌++◌, take, drop, length}
use Rattle.dt_cursor.specs.Search.{AreHeld}
use Rattle.dt_cursor.specs.Walk.{Walk}
use Rattle.dt_kinds.specs.declared.kind.Rep.{Rep}
use Rattle.dt_map.specs.declared.entry.Entry.{Entry}
use Rattle.dt_map.specs.Elements.{elements, are_inside, Overlaps}
use Rattle.dt_map.specs.Packed.{total}
use Rattle.dt_map.specs.Setting.{done, set}
use Rattle.dt_map.specs.Typemap.{Marked, shift}

-- a session: the representation; the elements of the operation as it would begin at 0; the place in the buffer at which it begins; how
-- many bytes the buffer has; how many packed bytes one copy of the datatype has; how many bytes were given; and the last of these,
-- which don't complete an element yet
pub record Session : Type 0 where
  pub rep : Rep
  pub elements : List Entry
  pub origin : ℤ
  pub buf_len : ℕ
  pub one : ℕ
  pub given : ℕ
  pub held : List ℕ

-- the elements in the buffer
abbrev pub placed : Session → List Entry
placed s = shift s.origin s.elements

-- how many packed bytes there are in all, and how many of them are still to come
abbrev pub total_of : Session → ℕ
total_of s = total s.rep s.elements

abbrev pub rest_of : Session → ℕ
rest_of s = total_of s - s.given

-- how many elements are complete, and how many are with a piece
abbrev pub complete : Session → ℕ
complete s = done s.rep s.elements s.given

abbrev pub complete_with : Session → List ℕ → ℕ
complete_with s piece = done s.rep s.elements (s.given + length piece)

-- the elements that a piece completes
abbrev pub completed : Session → List ℕ → List Entry
completed s piece = take (complete_with s piece - complete s) (drop (complete s) s.elements)

-- the session after a piece: it holds what doesn't complete an element yet
abbrev pub after : Session → List ℕ → Session
after s piece = record s { given = s.given + length piece; held = drop (total s.rep (completed s piece)) (s.held ++ piece) }

-- the buffer after a piece: the elements that it completes are set, and no other byte changes
abbrev pub buffer_after : Session → List ℕ → List ℕ → List ℕ
buffer_after s buffer piece = set s.rep (placed s) buffer (complete s) (complete_with s piece) (s.held ++ piece)

-- a session as it is opened
abbrev pub opened : Marked → ℕ → Rep → ℤ → ℕ → Session
opened m count rep origin buf_len =
    record { rep = rep; elements = elements m count (pos 0); origin = origin; buf_len = buf_len; one = total rep m.entries; given = 0; held = [] }

-- where a session stands: a walk through its elements, as they lie where the operation begins at 0
abbrev pub walk_of : Session → Walk
walk_of s = record { elements = s.elements; rep = s.rep; position = s.given }

-- some elements are complete, and of the next one some bytes are held, but not all
pub record IsBetween (s : Session) (before rest : List Entry) : Type 0 where
  pub all : s.elements ≡ before ++ rest
  pub place : s.given ≡ total s.rep before + length s.held
  pub within : AreHeld s.rep (length s.held) rest

-- what holds of each session: its elements lie in the buffer, of at most 16 MiB, and don't overlap; and it is between two elements, the
-- first so many of which are complete
pub record IsOpen (s : Session) (number : ℕ) : Type 0 where
  pub inside : IsTrue (are_inside s.buf_len (placed s))
  pub small : s.buf_len ≤ 16777216
  pub apart : ¬ Overlaps (placed s)
  pub before : List Entry
  pub rest : List Entry
  pub between : IsBetween s before rest
  pub many : number ≡ length before
