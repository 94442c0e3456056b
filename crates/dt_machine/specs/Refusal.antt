-- When a command is refused, and by which number.
use Rattle.std.specs.Prelude.{◌≡◌, ℕ, ◌+◌, ◌*◌, ◌≤◌, ◌<◌, ℤ, pos, nat_abs, int_lt, ◌<ℤ◌, Bool, ◌||◌, not, IsTrue, IsFalse, is_none, List, [], ◌∷◌, length, None, true, false, ◌⊎◌}
use Rattle.std.specs.List.{list_any}
use Rattle.std.specs.Option.{IsSomeAnd, option_map_or}
use Rattle.dt_kinds.specs.Name.{is_left_out}
use Rattle.dt_kinds.specs.declared.kind.Rep.{Rep}
use Rattle.dt_kinds.specs.declared.kind.Rep.TheVariants.{Native}
use Rattle.dt_map.specs.declared.entry.Entry.{Entry}
use Rattle.dt_map.specs.Elements.{elements, are_inside, Overlaps}
use Rattle.dt_map.specs.Packed.{total}
use Rattle.dt_reply.specs.declared.refusal.Refusal.{Refusal}
use Rattle.dt_reply.specs.declared.refusal.Refusal.TheVariants.{UnknownName, NameTaken, UnsupportedKind, NotCommitted, BasicType, NamedType, NoSuchChild, BadArgument, Overflow, TooDeep, TooHeavy, TooManyNames, TooManyEntries, Outside, Overlap, TooLarge, WrongDirection, Truncated, SignatureDiffers, SameBuffer, BadWire}
use Rattle.dt_reply.specs.Refusal.{number_of}
use Rattle.dt_script.specs.declared.command.Command.{Command}
use Rattle.dt_script.specs.declared.command.Command.TheVariants.{Define, Child, Commit, Free, Info, Map, Envelope, Contents, Buffer, Show, Bytes, Elements, Pack, Take, Seek, Close, Unpack, Give, Copy as CopyCommand, Export, Import, Reduce, Reduceall, Weights, Normalise, Rebuild}
use Rattle.dt_script.specs.declared.command.Fill.{Fill}
use Rattle.dt_script.specs.declared.command.Fill.TheVariants.{Zero, Count, Hex}
use Rattle.dt_script.specs.Olds.{any_old}
use Rattle.dt_copy.specs.Plan as copy
use Rattle.dt_reduce.specs.Plan as reduction
use Rattle.dt_type.specs.declared.fault.CtorFault.TheVariants as fault
use Rattle.dt_type.specs.Basic.{is_basic}
use Rattle.dt_form.specs.Contents.{old_at}
use Rattle.dt_type.specs.Datatype.{typemap_of, entries_of, form_of}
use Rattle.dt_form.specs.Form.{olds_of}
use Rattle.dt_names.specs.declared.kept.Kept.{Kept}
use Rattle.dt_sessions.specs.declared.session.Opened.{Opened}
use Rattle.dt_wire.specs.Fault.{IsText}
use Rattle.dt_wire.specs.Import.{IsRefused}
use Rattle.dt_sessions.specs.Open.{is_packing, total_in, rest_in}
use Rattle.dt_machine.specs.declared.limits.TheConstants.{MOST_TYPES, MOST_MADE, MOST_BUFFERS, LARGEST_BUFFER, MOST_BYTES, MOST_ENTRIES, MOST_SOUGHT, MOST_PACKED, MOST_SESSIONS, MOST_OPEN, MOST_RANKS, MOST_REDUCED}
use Rattle.dt_machine.specs.Choice.{AreWeights, AreTooWide}
use Rattle.dt_machine.specs.Made.{IsFaultIn}
use Rattle.dt_machine.specs.Row.{Row, ◌when◌, condition}
use Rattle.dt_machine.specs.Sides.{side, is_side_unknown, is_some_lost, IsNotCommitted, OfCopy, Differ, OfReduction}
use Rattle.dt_machine.specs.State.{State, type_of, buffer_of, is_unknown, is_basic_word, is_type_taken, is_buffer_taken, is_session_taken, session_of, packed_open, bytes_held}
use Rattle.dt_names.specs.Names.{bytes_of}

-- a negative length
abbrev pub IsNegativeFill : Fill → Type 0
IsNegativeFill (Zero len) = IsTrue (int_lt len (pos 0))
IsNegativeFill (Count len) = IsTrue (int_lt len (pos 0))
IsNegativeFill (Hex bytes) = ⊥

-- more bytes than one buffer may have, or all together
abbrev pub IsTooLarge : State → ℕ → Type 0
IsTooLarge s len = (LARGEST_BUFFER < len) ⊎ (MOST_BYTES < bytes_held s + len)

-- the elements of an operation on a type that stands
abbrev pub elements_of : Kept → ℤ → ℤ → List Entry
elements_of kept count origin = elements (typemap_of kept.ty) (nat_abs count) origin

-- some byte of some element lies outside the buffer, where type and buffer stand
abbrev pub IsOutside : State → List ℕ → List ℕ → ℤ → ℤ → Type 0
IsOutside s ty buffer count origin =
    IsSomeAnd (type_of s ty) (λ kept. IsSomeAnd (buffer_of s buffer) (λ bytes. IsFalse (are_inside (length bytes) (elements_of kept count origin))))

-- the packed bytes of an operation and of all open sessions together are too many
abbrev pub IsTooMuch : State → Rep → ℤ → ℤ → Kept → Type 0
IsTooMuch s rep count origin kept = MOST_OPEN < packed_open s + total rep (elements_of kept count origin)

-- some byte of these elements lies outside the buffer of a name, where it stands
abbrev pub lies_outside : State → List Entry → List ℕ → Bool
lies_outside s es name = option_map_or (λ bytes. not (are_inside (length bytes) es)) (buffer_of s name) false

-- too many ranks, or their elements have too many bytes together
abbrev pub AreTooMany : ℕ → ℤ → ℤ → Kept → Type 0
AreTooMany number count origin kept = (MOST_RANKS < number) ⊎ (MOST_REDUCED < total Native (elements_of kept count origin) * number)

-- a packed byte that a session hasn't
abbrev pub IsBeyond : ℤ → Opened → Type 0
IsBeyond byte opened = (byte <ℤ pos 0) ⊎ (pos (total_in opened.session) <ℤ byte)

-- a session to which packed bytes are given, where they would be taken; one from which they are taken, where they would be given; and
-- more bytes than are still to come
abbrev pub IsReceiving : Opened → Type 0
IsReceiving opened = is_packing opened.session ≡ false

abbrev pub IsSending : Opened → Type 0
IsSending opened = is_packing opened.session ≡ true

abbrev pub IsTruncated : List ℕ → Opened → Type 0
IsTruncated piece opened = rest_in opened.session < length piece

-- no more types may stand, or be made
abbrev pub NoMoreTypes : State → Type 0
NoMoreTypes s = (MOST_TYPES ≤ length s.types) ⊎ (MOST_MADE ≤ s.made)

-- a type that stands is derived, and has no old type of that number
abbrev pub LacksChild : State → List ℕ → ℤ → Type 0
LacksChild s ty k = IsSomeAnd (type_of s ty) (λ kept. (is_basic kept.ty ≡ false) × (old_at (olds_of (form_of kept.ty)) k ≡ None))

-- a command that uses a type, and then more
abbrev pub type_row : State → List ℕ → Row → Row
type_row s ty more = UnknownName when IsTrue (is_unknown s ty) ∷ UnsupportedKind when IsTrue (is_left_out ty) ∷ more

-- a command that names a new type, made of types of which some is unknown or left out, and then more
abbrev pub new_type_row : State → List ℕ → Bool → Bool → Row → Row
new_type_row s name unknown left_out more =
    UnknownName when IsTrue unknown ∷ NameTaken when IsTrue (is_type_taken s name) ∷ UnsupportedKind when IsTrue left_out ∷ more

-- What refuses each command, by rising number. A condition that needs what doesn't stand doesn't hold.
abbrev pub conditions : State → Command → Row
conditions s (Define name ctor) =
    new_type_row s name (any_old (is_unknown s) ctor) (any_old is_left_out ctor) (
    BadArgument when IsFaultIn s ctor fault.BadArgument
    ∷ Overflow when IsFaultIn s ctor fault.Overflow
    ∷ TooDeep when IsFaultIn s ctor fault.TooDeep
    ∷ TooHeavy when IsFaultIn s ctor fault.TooHeavy
    ∷ TooManyNames when NoMoreTypes s
    ∷ []
    )
conditions s (Child name ty k) =
    new_type_row s name (is_unknown s ty) (is_left_out ty) (
    NamedType when IsTrue (is_basic_word s ty)
    ∷ NoSuchChild when LacksChild s ty k
    ∷ TooManyNames when NoMoreTypes s
    ∷ []
    )
conditions s (Commit ty) = type_row s ty []
conditions s (Free ty) = type_row s ty (BasicType when IsTrue (is_basic_word s ty) ∷ [])
conditions s (Info ty) = type_row s ty []
conditions s (Map ty) =
    type_row s ty (TooManyEntries when IsSomeAnd (type_of s ty) (λ kept. MOST_ENTRIES < length (entries_of kept.ty)) ∷ [])
conditions s (Envelope ty) = type_row s ty []
conditions s (Contents ty) = type_row s ty (NamedType when IsTrue (is_basic_word s ty) ∷ [])
conditions s (Buffer name fill) =
    NameTaken when IsTrue (is_buffer_taken s name)
    ∷ BadArgument when IsNegativeFill fill
    ∷ TooManyNames when (MOST_BUFFERS ≤ length s.buffers)
    ∷ TooLarge when IsTooLarge s (length (bytes_of fill))
    ∷ []
conditions s (Show buffer) = UnknownName when IsTrue (is_none (buffer_of s buffer)) ∷ []
conditions s (Bytes rep count ty buffer origin) =
    UnknownName when IsTrue (is_unknown s ty || is_none (buffer_of s buffer))
    ∷ UnsupportedKind when IsTrue (is_left_out ty)
    ∷ BadArgument when IsTrue (int_lt count (pos 0))
    ∷ Outside when IsOutside s ty buffer count origin
    ∷ TooLarge when IsSomeAnd (type_of s ty) (λ kept. MOST_PACKED < total rep (elements_of kept count origin))
    ∷ []
conditions s (Elements rep bytes ty) = type_row s ty (BadArgument when IsTrue (int_lt bytes (pos 0)) ∷ [])
conditions s (Pack name rep count ty buffer origin) =
    UnknownName when IsTrue (is_unknown s ty || is_none (buffer_of s buffer))
    ∷ NameTaken when IsTrue (is_session_taken s name)
    ∷ UnsupportedKind when IsTrue (is_left_out ty)
    ∷ NotCommitted when IsSomeAnd (type_of s ty) (λ kept. kept.committed ≡ false)
    ∷ BadArgument when IsTrue (int_lt count (pos 0))
    ∷ TooManyNames when (MOST_SESSIONS ≤ length s.sessions)
    ∷ Outside when IsOutside s ty buffer count origin
    ∷ TooLarge when IsSomeAnd (type_of s ty) (IsTooMuch s rep count origin)
    ∷ []
conditions s (Take session len) =
    UnknownName when IsTrue (is_none (session_of s session))
    ∷ BadArgument when IsTrue (int_lt len (pos 0))
    ∷ WrongDirection when IsSomeAnd (session_of s session) IsReceiving
    ∷ []
conditions s (Seek session byte) =
    UnknownName when IsTrue (is_none (session_of s session))
    ∷ BadArgument when IsSomeAnd (session_of s session) (IsBeyond byte)
    ∷ WrongDirection when IsSomeAnd (session_of s session) IsReceiving
    ∷ []
conditions s (Close session) = UnknownName when IsTrue (is_none (session_of s session)) ∷ []
conditions s (Unpack name rep count ty buffer origin) =
    UnknownName when IsTrue (is_unknown s ty || is_none (buffer_of s buffer))
    ∷ NameTaken when IsTrue (is_session_taken s name)
    ∷ UnsupportedKind when IsTrue (is_left_out ty)
    ∷ NotCommitted when IsSomeAnd (type_of s ty) (λ kept. kept.committed ≡ false)
    ∷ BadArgument when IsTrue (int_lt count (pos 0))
    ∷ TooManyNames when (MOST_SESSIONS ≤ length s.sessions)
    ∷ Outside when IsOutside s ty buffer count origin
    ∷ Overlap when IsSomeAnd (type_of s ty) (λ kept. Overlaps (elements_of kept count origin))
    ∷ TooLarge when IsSomeAnd (type_of s ty) (IsTooMuch s rep count origin)
    ∷ []
conditions s (Give session piece) =
    UnknownName when IsTrue (is_none (session_of s session))
    ∷ WrongDirection when IsSomeAnd (session_of s session) IsSending
    ∷ Truncated when IsSomeAnd (session_of s session) (IsTruncated piece)
    ∷ []
conditions s (CopyCommand source_count source_type source source_origin target_count target_type target target_origin) =
    let from = side source_count source_type source source_origin in
    let onto = side target_count target_type target target_origin in
    UnknownName when IsTrue (is_side_unknown s from || is_side_unknown s onto)
    ∷ UnsupportedKind when IsTrue (is_left_out source_type || is_left_out target_type)
    ∷ NotCommitted when (IsNotCommitted s source_type ⊎ IsNotCommitted s target_type)
    ∷ BadArgument when IsTrue (int_lt source_count (pos 0) || int_lt target_count (pos 0))
    ∷ Outside when OfCopy s from onto (λ c. ¬ copy.AreInside c)
    ∷ Overlap when OfCopy s from onto (λ c. Overlaps c.target)
    ∷ Truncated when OfCopy s from onto (λ c. length c.target < length c.source)
    ∷ SignatureDiffers when OfCopy s from onto Differ
    ∷ SameBuffer when (source ≡ target)
    ∷ []
conditions s (Export ty) = type_row s ty []
conditions s (Import name wire) =
    NameTaken when IsTrue (is_type_taken s name)
    ∷ BadArgument when IsRefused wire fault.BadArgument
    ∷ Overflow when IsRefused wire fault.Overflow
    ∷ TooDeep when IsRefused wire fault.TooDeep
    ∷ TooHeavy when IsRefused wire fault.TooHeavy
    ∷ TooManyNames when NoMoreTypes s
    ∷ BadWire when (¬ IsText wire)
    ∷ []
conditions s (Reduce op count ty source source_origin target target_origin) =
    let from = side count ty source source_origin in
    let onto = side count ty target target_origin in
    UnknownName when IsTrue (is_side_unknown s from || is_side_unknown s onto)
    ∷ UnsupportedKind when IsTrue (is_left_out ty)
    ∷ NotCommitted when IsNotCommitted s ty
    ∷ BadArgument when IsTrue (int_lt count (pos 0))
    ∷ Outside when OfReduction s from onto (λ r. ¬ reduction.AreInside r)
    ∷ Overlap when OfReduction s from onto (λ r. Overlaps r.target)
    ∷ SameBuffer when (source ≡ target)
    ∷ []
conditions s (Reduceall op how count ty origin target ranks) =
    UnknownName when IsTrue (is_unknown s ty || is_some_lost s (target ∷ ranks))
    ∷ UnsupportedKind when IsTrue (is_left_out ty)
    ∷ NotCommitted when IsNotCommitted s ty
    ∷ BadArgument when IsTrue (int_lt count (pos 0))
    ∷ Outside when IsSomeAnd (type_of s ty) (λ kept. IsTrue (list_any (lies_outside s (elements_of kept count origin)) (target ∷ ranks)))
    ∷ Overlap when IsSomeAnd (type_of s ty) (λ kept. Overlaps (elements_of kept count origin))
    ∷ TooLarge when IsSomeAnd (type_of s ty) (AreTooMany (length ranks) count origin)
    ∷ []
conditions s (Weights leaf vector index place group part) = BadArgument when (¬ AreWeights leaf vector index place group part) ∷ []
conditions s (Normalise ty) =
    type_row s ty (TooManyEntries when IsSomeAnd (type_of s ty) (λ kept. MOST_SOUGHT < length (entries_of kept.ty)) ∷ [])
conditions s (Rebuild name ty) =
    new_type_row s name (is_unknown s ty) (is_left_out ty) (
    Overflow when IsSomeAnd (type_of s ty) (λ kept. AreTooWide (entries_of kept.ty))
    ∷ TooManyNames when NoMoreTypes s
    ∷ TooManyEntries when IsSomeAnd (type_of s ty) (λ kept. MOST_SOUGHT < length (entries_of kept.ty))
    ∷ []
    )

-- the condition of a refusal holds of a command
abbrev pub Holds : State → Command → Refusal → Type 0
Holds s command refusal = condition (conditions s command) refusal

-- a command is refused by the least number whose condition holds
abbrev pub IsRefusedBy : State → Command → Refusal → Type 0
IsRefusedBy s command refusal =
    Holds s command refusal × ((lesser : Refusal) → number_of lesser < number_of refusal → ¬ Holds s command lesser)

-- no condition holds
abbrev pub IsAllowed : State → Command → Type 0
IsAllowed s command = (refusal : Refusal) → ¬ Holds s command refusal
