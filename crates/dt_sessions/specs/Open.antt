-- The buffers of a script, and the sessions that are open over them.
use Rattle.std.specs.Prelude.{◌≡◌, ℕ, ◌-◌, ◌≤◌, Bool, true, false, None, List, [], length}
use Rattle.std.specs.BTreeMap.{is_at, insert_entry}
use Rattle.std.specs.Cmp.Lexicographic.{slice_cmp}
use Rattle.std.specs.List.{sum_by, AllByRecursion}
use Rattle.std.specs.Map.{set_value, remove_entry}
use Rattle.std.specs.Option.{IsSomeAnd}
use Rattle.std.specs.Ordering.{nat_cmp}
use Rattle.dt_map.specs.Counts.{whole_copies}
use Rattle.dt_names.specs.Names.{under}
use Rattle.dt_pack.specs.Session as pack
use Rattle.dt_reply.specs.declared.receipt.Receipt.{Receipt}
use Rattle.dt_sessions.specs.declared.session.Opened.{Opened}
use Rattle.dt_sessions.specs.declared.session.Session.{Session}
use Rattle.dt_sessions.specs.declared.session.Session.TheVariants.{Pack, Unpack}
use Rattle.dt_unpack.specs.Session as unpack

-- the buffers that stand and the sessions that are open, by name and in the order of the names
pub record Standing : Type 0 where
  pub buffers : List (List ℕ × List ℕ)
  pub sessions : List (List ℕ × Opened)

abbrev pub nothing_stands : Standing
nothing_stands = record { buffers = []; sessions = [] }

-- whether packed bytes are taken from a session; else they are given to it
abbrev pub is_packing : Session → Bool
is_packing (Pack s) = true
is_packing (Unpack s) = false

-- how many packed bytes a session has in all, how many of them were passed, and how many bytes its buffer has
abbrev pub total_in : Session → ℕ
total_in (Pack s) = pack.total_of s
total_in (Unpack s) = unpack.total_of s

abbrev pub passed_in : Session → ℕ
passed_in (Pack s) = s.position
passed_in (Unpack s) = s.given

abbrev pub buf_len_in : Session → ℕ
buf_len_in (Pack s) = s.buf_len
buf_len_in (Unpack s) = s.buf_len

-- the packed bytes of all open sessions together
abbrev pub packed_in : List (List ℕ × Opened) → ℕ
packed_in sessions = sum_by (λ entry. total_in entry.1.session) sessions

-- how many packed bytes are still to come
abbrev pub rest_in : Session → ℕ
rest_in s = total_in s - passed_in s

-- an open pack session, and an open unpack session
abbrev pub packing : List ℕ → pack.Session → Opened
packing buffer s = record { buffer = buffer; session = Pack s }

abbrev pub unpacking : List ℕ → unpack.Session → Opened
unpacking buffer s = record { buffer = buffer; session = Unpack s }

-- a packed byte to which a pack session can go, and the session there
abbrev pub CanSeek : Session → ℕ → Type 0
CanSeek (Pack s) byte = byte ≤ pack.total_of s
CanSeek (Unpack s) byte = ⊥

abbrev pub at_byte_in : Session → ℕ → Session
at_byte_in (Pack s) byte = Pack (pack.at_byte s byte)
at_byte_in (Unpack s) byte = Unpack s

-- how many packed bytes can be taken from a pack session, and the next so many of them, of a buffer as it is now
abbrev pub CanTake : Session → ℕ → Type 0
CanTake (Pack s) n = n ≤ pack.rest_of s
CanTake (Unpack s) n = ⊥

abbrev pub next_in : Session → List ℕ → ℕ → List ℕ
next_in (Pack s) buffer n = pack.next_bytes s buffer n
next_in (Unpack s) buffer n = []

-- a piece that can be given to an unpack session; the session and the buffer after it; and what it came to
abbrev pub CanGive : Session → List ℕ → Type 0
CanGive (Pack s) piece = ⊥
CanGive (Unpack s) piece = length piece ≤ unpack.rest_of s

abbrev pub given_in : Session → List ℕ → Session
given_in (Pack s) piece = Pack s
given_in (Unpack s) piece = Unpack (unpack.after s piece)

abbrev pub buffer_in : Session → List ℕ → List ℕ → List ℕ
buffer_in (Pack s) buffer piece = buffer
buffer_in (Unpack s) buffer piece = unpack.buffer_after s buffer piece

abbrev pub receipt_of : unpack.Session → List ℕ → Receipt
receipt_of s piece = record {
  completed = length (unpack.completed s piece);
  held = length (unpack.after s piece).held;
  bytes = (unpack.after s piece).given;
  elements = unpack.complete (unpack.after s piece);
  copies = whole_copies s.one (unpack.after s piece).given;
}

abbrev pub receipt_in : Session → List ℕ → Receipt
receipt_in (Pack s) piece = record { completed = 0; held = 0; bytes = 0; elements = 0; copies = None }
receipt_in (Unpack s) piece = receipt_of s piece

-- an open session at another packed byte, and one after a piece
abbrev pub opened_at : Opened → ℕ → Opened
opened_at opened byte = record { buffer = opened.buffer; session = at_byte_in opened.session byte }

abbrev pub opened_given : Opened → List ℕ → Opened
opened_given opened piece = record { buffer = opened.buffer; session = given_in opened.session piece }

-- one more buffer, one more session, one in the place of another, and one less
abbrev pub with_buffer : Standing → List ℕ → List ℕ → Standing
with_buffer s name bytes = record s { buffers = insert_entry (slice_cmp nat_cmp) s.buffers name bytes }

abbrev pub with_opened : Standing → List ℕ → Opened → Standing
with_opened s name opened = record s { sessions = insert_entry (slice_cmp nat_cmp) s.sessions name opened }

abbrev pub with_moved : Standing → List ℕ → Opened → Standing
with_moved s name opened = record s { sessions = set_value (is_at (slice_cmp nat_cmp name)) s.sessions opened }

-- a piece was given to the session of a name, whose buffer had these bytes
abbrev pub with_given : Standing → List ℕ → Opened → List ℕ → List ℕ → Standing
with_given s name opened bytes piece = record {
  buffers = set_value (is_at (slice_cmp nat_cmp opened.buffer)) s.buffers (buffer_in opened.session bytes piece);
  sessions = set_value (is_at (slice_cmp nat_cmp name)) s.sessions (opened_given opened piece);
}

abbrev pub without_session : Standing → List ℕ → Standing
without_session s name = record s { sessions = remove_entry (is_at (slice_cmp nat_cmp name)) s.sessions }

-- a buffer of so many bytes stands under a name, and other bytes in the place of a buffer's
abbrev pub StandsWith : Standing → List ℕ → ℕ → Type 0
StandsWith s name len = IsSomeAnd (under name s.buffers) (λ bytes. length bytes ≡ len)

abbrev pub with_bytes : Standing → List ℕ → List ℕ → Standing
with_bytes s name bytes = record s { buffers = set_value (is_at (slice_cmp nat_cmp name)) s.buffers bytes }

-- a session's buffer stands and has as many bytes as when the session was opened
abbrev pub IsOver : List (List ℕ × List ℕ) → Opened → Type 0
IsOver buffers opened = IsSomeAnd (under opened.buffer buffers) (λ bytes. length bytes ≡ buf_len_in opened.session)

-- at most 16 MiB
abbrev pub IsSmall : List ℕ → Type 0
IsSmall bytes = length bytes ≤ 16777216

-- each buffer is small, and each session over a buffer that stands
pub record HoldsOpen (buffers : List (List ℕ × List ℕ)) (sessions : List (List ℕ × Opened)) : Type 0 where
  pub small : AllByRecursion (λ entry. IsSmall entry.1) buffers
  pub over : AllByRecursion (λ entry. IsOver buffers entry.1) sessions
