-- Operations on numbered datatypes: what is packed and unpacked, and why not.
use Rattle.std.specs.Prelude.{◌≡◌, ℕ, ◌+◌, ◌<◌, ◌⊎◌, ◌<ℤ◌, ◌≤ℤ◌, pos, nat_abs, true, false, IsTrue, None, List, ◌++◌, take, drop, length, Result, MatchResult, IfErr}
use Rattle.std.specs.Option.{IsSomeAnd}
use Rattle.dt_map.specs.declared.entry.Entry.{Entry}
use Rattle.dt_map.specs.Elements.{elements, are_inside, Overlaps}
use Rattle.dt_map.specs.Packed.{packed, total}
use Rattle.dt_pack.specs.Session as pack
use Rattle.dt_type.specs.declared.datatype.Seen.{Seen}
use Rattle.dt_type.specs.Datatype.{typemap_of}
use Rattle.dt_unpack.specs.Session as unpack
use Rattle.dt_space.specs.declared.fault.SpaceFault.{SpaceFault}
use Rattle.dt_space.specs.declared.fault.SpaceFault.TheVariants.{NoSuchType, BadArgument, Uncommitted, Outside, Overlap, TooLarge, NoRoom, NoMemory}
use Rattle.dt_space.specs.declared.number.Operation.{Operation}
use Rattle.dt_space.specs.Space.{Space, kept_at}

-- how many copies
abbrev pub count_of : Operation → ℕ
count_of op = nat_abs op.count

-- the elements of the operation
abbrev pub elements_of : Operation → Seen → List Entry
elements_of op t = elements (typemap_of t) (count_of op) op.origin

-- how many packed bytes they have
abbrev pub total_of : Operation → Seen → ℕ
total_of op t = total op.rep (elements_of op t)

-- the datatype of an operation is committed and its count isn't negative, and this holds of the datatype
abbrev pub IsReady : Space → Operation → (Seen → Type 0) → Type 0
IsReady s op Is = IsSomeAnd (kept_at s op.ty) (λ kept. (kept.committed ≡ true) × (pos 0 ≤ℤ op.count) × Is kept.ty)

-- a buffer of so many bytes is small, and the elements lie in it
abbrev pub Lies : ℕ → Operation → Seen → Type 0
Lies len op t = (len < 16777217) × IsTrue (are_inside len (elements_of op t))

-- a session over the operation's elements in a buffer of so many bytes
abbrev pub packing : Operation → ℕ → Seen → pack.Session
packing op len t = pack.opened (typemap_of t) (count_of op) op.rep op.origin len

abbrev pub unpacking : Operation → ℕ → Seen → unpack.Session
unpacking op len t = unpack.opened (typemap_of t) (count_of op) op.rep op.origin len

-- a session has just begun over the operation's elements, which lie in a small buffer
abbrev pub IsPacking : Operation → ℕ → Seen → pack.Session → Type 0
IsPacking op len t session = (session ≡ packing op len t) × Lies len op t × (pack.placed session ≡ elements_of op t)

abbrev pub IsUnpacking : Operation → ℕ → Seen → unpack.Session → Type 0
IsUnpacking op len t session = (session ≡ unpacking op len t) × Lies len op t × (unpack.placed session ≡ elements_of op t)

-- why an operation isn't ready: the number stands for nothing, else its datatype isn't committed, else the count is negative
abbrev pub IsUnready : Space → Operation → SpaceFault → Type 0
IsUnready s op NoSuchType = kept_at s op.ty ≡ None
IsUnready s op Uncommitted = IsSomeAnd (kept_at s op.ty) (λ kept. kept.committed ≡ false)
IsUnready s op BadArgument = IsSomeAnd (kept_at s op.ty) (λ kept. (kept.committed ≡ true) × (op.count <ℤ pos 0))
IsUnready s op NoMemory = Unit {0}
IsUnready s op fault = ⊥

-- why no session is opened: the operation isn't ready, else the buffer or the packed bytes are too large, or an element lies outside
abbrev pub IsPackRefusal : Space → Operation → ℕ → SpaceFault → Type 0
IsPackRefusal s op len TooLarge = IsReady s op (λ t. (16777216 < len) ⊎ pack.IsTooLarge (typemap_of t) (count_of op) op.rep op.origin len)
IsPackRefusal s op len Outside = IsReady s op (λ t. ¬ IsTrue (are_inside len (elements_of op t)))
IsPackRefusal s op len fault = IsUnready s op fault

-- the same of a session that unpacks, over whose elements none may overlap
abbrev pub IsUnpackRefusal : Space → Operation → ℕ → SpaceFault → Type 0
IsUnpackRefusal s op len TooLarge = IsReady s op (λ t. 16777216 < len)
IsUnpackRefusal s op len Outside = IsReady s op (λ t. ¬ IsTrue (are_inside len (elements_of op t)))
IsUnpackRefusal s op len Overlap = IsReady s op (λ t. IsTrue (are_inside len (elements_of op t)) × Overlaps (elements_of op t))
IsUnpackRefusal s op len fault = IsUnready s op fault

-- why nothing is packed, or unpacked: no session is opened, or from a position on the packed bytes aren't among so many
abbrev pub IsPackCause : Space → Operation → ℕ → ℕ → ℕ → SpaceFault → Type 0
IsPackCause s op len room position NoRoom = IsReady s op (λ t. room < position + total_of op t)
IsPackCause s op len room position fault = IsPackRefusal s op len fault

abbrev pub IsUnpackCause : Space → Operation → ℕ → ℕ → ℕ → SpaceFault → Type 0
IsUnpackCause s op len room position NoRoom = IsReady s op (λ t. room < position + total_of op t)
IsUnpackCause s op len room position fault = IsUnpackRefusal s op len fault

-- the packed bytes of the operation stand from a position on, up to an end, and the rest is as before
pub record IsPacked (op : Operation) (t : Seen) (buffer old new : List ℕ) (position end : ℕ) : Type 0 where
  pub end_is : end ≡ position + total_of op t
  pub fits : end < length old + 1
  pub put : new ≡ take position old ++ packed op.rep (elements_of op t) buffer ++ drop end old

-- the elements of the operation are set from the packed bytes from a position on, up to an end, and no other byte changes
pub record IsUnpacked (op : Operation) (t : Seen) (bytes old new : List ℕ) (position end : ℕ) : Type 0 where
  pub end_is : end ≡ position + total_of op t
  pub fits : end < length bytes + 1
  pub set : new ≡ unpack.buffer_after (unpacking op (length old) t) old (take (total_of op t) (drop position bytes))

-- the answers; a refusal leaves the bytes as they were
abbrev pub IsPackAnswer : Space → Operation → List ℕ → List ℕ → List ℕ → ℕ → Result ℕ SpaceFault → Type 0
IsPackAnswer s op buffer old new position answer =
    MatchResult answer (λ end. IsReady s op (λ t. IsPacked op t buffer old new position end)) (IsPackCause s op (length buffer) (length old) position)
    × IfErr answer (λ fault. new ≡ old)

abbrev pub IsUnpackAnswer : Space → Operation → List ℕ → List ℕ → List ℕ → ℕ → Result ℕ SpaceFault → Type 0
IsUnpackAnswer s op bytes old new position answer =
    MatchResult answer (λ end. IsReady s op (λ t. IsUnpacked op t bytes old new position end)) (IsUnpackCause s op (length old) (length bytes) position)
    × IfErr answer (λ fault. new ≡ old)
