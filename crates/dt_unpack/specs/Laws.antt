use Rattle.std.specs.Prelude.{◌≡◌, ℕ, ◌<◌, ℤ, pos, IsTrue, slice_index, slice_index_or, List, [], ◌∷◌, ◌++◌, length}
use Rattle.std.specs.List.{All, AllByRecursion, flat_map}
use Rattle.dt_image.specs.Number.{FitsExternal}
use Rattle.dt_kinds.specs.Bytes.{AreBytes}
use Rattle.dt_kinds.specs.declared.kind.Rep.{Rep}
use Rattle.dt_kinds.specs.declared.kind.Rep.TheVariants.{Native, External32}
use Rattle.dt_map.specs.declared.entry.Entry.{Entry}
use Rattle.dt_map.specs.Elements.{are_inside, IsByteOf}
use Rattle.dt_map.specs.Packed.{bytes_at, packed}
use Rattle.dt_map.specs.Typemap.{shift}
use Rattle.dt_unpack.specs.Session.{Session, placed, completed, after, buffer_after, IsOpen}

-- the buffer after some pieces, one after another
abbrev pub buffer_after_all : Session → List ℕ → List (List ℕ) → List ℕ
buffer_after_all s buffer [] = buffer
buffer_after_all s buffer (piece ∷ pieces) = buffer_after_all (after s piece) (buffer_after s buffer piece) pieces

-- two pieces, one after the other, leave the session and the buffer as they do joined
abbrev pub PiecesAreJoined : Type 0
PiecesAreJoined =
    (s : Session) (number : ℕ) (buffer p q : List ℕ) → IsOpen s number
    → (after (after s p) q ≡ after s (p ++ q)) × (buffer_after (after s p) (buffer_after s buffer p) q ≡ buffer_after s buffer (p ++ q))

-- the numbers of elements have room in a representation: always in memory, and in external32 where they are in its range
abbrev pub HaveRoom : Rep → List Entry → List ℕ → Type 0
HaveRoom Native es buffer = Unit {0}
HaveRoom External32 es buffer = All (λ e. FitsExternal e.kind (bytes_at buffer e)) es

-- a receiver that is given all packed bytes of a sender's buffer, in any pieces, has at each byte of an element the sender's, and at
-- each other byte its own
abbrev pub ReceivedIsSent : Type 0
ReceivedIsSent =
    (s : Session) (number : ℕ) (sent buffer : List ℕ) (pieces : List (List ℕ)) → IsOpen s number → s.given ≡ 0
    → length sent ≡ s.buf_len → length buffer ≡ s.buf_len → AreBytes sent → HaveRoom s.rep (placed s) sent
    → flat_map (λ piece. piece) pieces ≡ packed s.rep (placed s) sent
    → ((i x : ℕ) (d : Entry) → i < length (placed s) → IsByteOf (pos x) (slice_index_or (placed s) i d) → slice_index (buffer_after_all s buffer pieces) x ≡ slice_index sent x)
    × ((x : ℕ) → All (λ e. ¬ IsByteOf (pos x) e) (placed s) → slice_index (buffer_after_all s buffer pieces) x ≡ slice_index buffer x)

-- no byte of the ones is a byte of the others
abbrev pub AreApart : List Entry → List Entry → Type 0
AreApart es fs = AllByRecursion (λ e. AllByRecursion (λ f. (x : ℤ) → IsByteOf x e → ¬ IsByteOf x f) fs) es

-- the elements that a piece sets in the buffer
abbrev pub set_by : Session → List ℕ → List Entry
set_by s piece = shift s.origin (completed s piece)

-- other elements of the buffer keep their packed bytes, where no byte of an element that a piece sets is one of theirs
abbrev pub OthersAreKept : Type 0
OthersAreKept =
    (s : Session) (number : ℕ) (buffer piece : List ℕ) (rep : Rep) (others : List Entry) → IsOpen s number → length buffer ≡ s.buf_len
    → IsTrue (are_inside (length buffer) others) → AreApart (set_by s piece) others → packed rep others (buffer_after s buffer piece) ≡ packed rep others buffer

-- two pieces that are given to two sessions over one buffer leave the same buffer in either order, where no byte of an element that the one
-- sets is a byte of an element of the other's session
abbrev pub OrderIsFree : Type 0
OrderIsFree =
    (s t : Session) (m n : ℕ) (buffer p q : List ℕ) → IsOpen s m → IsOpen t n → length buffer ≡ s.buf_len → length buffer ≡ t.buf_len
    → AreApart (set_by s p) (placed t) → buffer_after t (buffer_after s buffer p) q ≡ buffer_after s (buffer_after t buffer q) p
