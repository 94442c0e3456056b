-- What keeps operations from being performed, by what stands of them. No public clause cites this module.
use Rattle.std.specs.Option.{IsSomeAnd}
use Rattle.std.specs.Prelude.{◌||◌, ◌⊎◌, is_none, ◌≡◌, ℕ, ◌<◌, ◌≤◌, false, length, List, map, Some, ℤ, pos, nat_abs, int_lt, IsTrue, IsFalse, [], ◌∷◌, ◌++◌}
use Rattle.dt_kinds.specs.declared.kind.Rep.{Rep}
use Rattle.dt_map.specs.Typemap.{Marked}
use Rattle.dt_map.specs.Elements.{elements, are_inside, Overlaps}
use Rattle.dt_map.specs.Packed.{total}
use Rattle.dt_reply.specs.declared.refusal.Refusal.TheVariants.{UnknownName, NameTaken, UnsupportedKind, NotCommitted, BadArgument, Overflow, TooDeep, TooHeavy, TooManyNames, Outside, Overlap, TooLarge, WrongDirection, Truncated, SignatureDiffers}
use Rattle.dt_type.specs.declared.datatype.Seen.{Seen}
use Rattle.dt_type.specs.Datatype.{typemap_of}
use Rattle.dt_machine.specs.declared.limits.TheConstants.{MOST_PACKED, MOST_SESSIONS}
use Rattle.dt_kinds.specs.Name.{is_left_out}
use Rattle.dt_copy.specs.Plan as copy
use Rattle.dt_names.specs.declared.kept.Kept.{Kept}
use Rattle.dt_names.specs.declared.stop.Stop.{Stop}
use Rattle.dt_names.specs.declared.stop.Stop.TheVariants.{Refused, NoMemory}
use Rattle.dt_reduce.specs.Folded.{words_of}
use Rattle.dt_reduce.specs.Plan as reduction
use Rattle.dt_reduce.specs.Ranks.{Ranked}
use Rattle.dt_type.specs.declared.fault.CtorFault.TheVariants as fault
use Rattle.dt_wire.specs.Import.{IsRefused}
use Rattle.dt_machine.specs.Refusal.{elements_of, IsTooMuch, IsSending, IsTruncated}
use Rattle.dt_machine.specs.State.{State, is_unknown, is_session_taken, session_of}
use Rattle.dt_machine.specs.Sides.{buffers_of}
use Rattle.dt_machine.specs.Row.{Row, ◌when◌}

-- what keeps the packed bytes of an operation from being printed, by its type and the length of its buffer
abbrev pub operation_row : Rep → ℤ → Seen → ℕ → ℤ → Row
operation_row rep count ty len origin =
    BadArgument when IsTrue (int_lt count (pos 0))
    ∷ Outside when IsFalse (are_inside len (elements (typemap_of ty) (nat_abs count) origin))
    ∷ TooLarge when (MOST_PACKED < total rep (elements (typemap_of ty) (nat_abs count) origin))
    ∷ []

-- what keeps a session from being opened over a buffer that stands: by the names alone
abbrev pub session_names_row : State → List ℕ → List ℕ → Row
session_names_row s name ty =
    UnknownName when IsTrue (is_unknown s ty) ∷ NameTaken when IsTrue (is_session_taken s name) ∷ UnsupportedKind when IsTrue (is_left_out ty) ∷ []

-- by the type, the numbers and the length of the buffer
abbrev pub place_row : State → Kept → ℤ → ℤ → ℕ → Row
place_row s kept count origin len =
    NotCommitted when (kept.committed ≡ false)
    ∷ BadArgument when IsTrue (int_lt count (pos 0))
    ∷ TooManyNames when (MOST_SESSIONS ≤ length s.sessions)
    ∷ Outside when IsFalse (are_inside len (elements_of kept count origin))
    ∷ []

-- and by the packed bytes of all sessions
abbrev pub opening_row : State → Kept → Rep → ℤ → ℤ → ℕ → Row
opening_row s kept rep count origin len = place_row s kept count origin len ++ (TooLarge when IsTooMuch s rep count origin kept ∷ [])

-- what keeps a piece from being given to a session
abbrev pub giving_row : State → List ℕ → List ℕ → Row
giving_row s name piece =
    UnknownName when IsTrue (is_none (session_of s name))
    ∷ WrongDirection when IsSomeAnd (session_of s name) IsSending
    ∷ Truncated when IsSomeAnd (session_of s name) (IsTruncated piece)
    ∷ []

-- why one of two type words stands for nothing
abbrev pub AreMissing : State → List ℕ → List ℕ → Stop → Type 0
AreMissing s first second (Refused UnknownName) = IsTrue (is_unknown s first || is_unknown s second)
AreMissing s first second (Refused UnsupportedKind) = ((is_unknown s first || is_unknown s second) ≡ false) × IsTrue (is_left_out first || is_left_out second)
AreMissing s first second NoMemory = Unit {0}
AreMissing s first second stop = ⊥

-- what keeps elements from being copied: by the types and the counts
abbrev pub both_row : Kept → Kept → ℤ → ℤ → Row
both_row from onto source_count target_count =
    NotCommitted when ((from.committed ≡ false) ⊎ (onto.committed ≡ false))
    ∷ BadArgument when IsTrue (int_lt source_count (pos 0) || int_lt target_count (pos 0))
    ∷ []

-- and by the elements of both sides
abbrev pub IsUncopied : copy.Copy → Stop → Type 0
IsUncopied c (Refused Outside) = ¬ copy.AreInside c
IsUncopied c (Refused Overlap) = copy.AreInside c × Overlaps c.target
IsUncopied c (Refused Truncated) = copy.AreSettable c × (length c.target < length c.source)
IsUncopied c (Refused SignatureDiffers) = (at : ℕ) × copy.DifferFirst c at
IsUncopied c NoMemory = Unit {0}
IsUncopied c stop = ⊥

-- what keeps elements from being reduced: by the type and the count, and by the elements
abbrev pub counted_row : Kept → ℤ → Row
counted_row kept count = NotCommitted when (kept.committed ≡ false) ∷ BadArgument when IsTrue (int_lt count (pos 0)) ∷ []

abbrev pub IsUnreduced : reduction.Reduction → Stop → Type 0
IsUnreduced r (Refused Outside) = ¬ reduction.AreInside r
IsUnreduced r (Refused Overlap) = reduction.AreInside r × Overlaps r.target
IsUnreduced r NoMemory = Unit {0}
IsUnreduced r stop = ⊥

-- the ranks that buffers hold, and those of the buffers of some names, all of which stand
abbrev pub ranks_in : Marked → ℕ → ℤ → List (List ℕ) → Ranked
ranks_in m count origin buffers = record { typemap = m; count = count; rows = map (words_of (elements m count origin)) buffers }

abbrev pub Gathers : State → Marked → ℕ → ℤ → List (List ℕ) → Ranked → Type 0
Gathers s m count origin names ranks = (buffers : List (List ℕ)) × (buffers_of s names ≡ Some buffers) × (ranks ≡ ranks_in m count origin buffers)

-- why no type is made of bytes that spell one
abbrev pub IsUnread : List ℕ → Stop → Type 0
IsUnread wire (Refused BadArgument) = IsRefused wire fault.BadArgument
IsUnread wire (Refused Overflow) = IsRefused wire fault.Overflow
IsUnread wire (Refused TooDeep) = IsRefused wire fault.TooDeep
IsUnread wire (Refused TooHeavy) = IsRefused wire fault.TooHeavy
IsUnread wire NoMemory = Unit {0}
IsUnread wire stop = ⊥
