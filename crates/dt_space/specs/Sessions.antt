-- Sessions under numbers: packed bytes in pieces.
use Rattle.std.specs.Prelude.{◌≡◌, ◌≢◌, ℕ, ◌+◌, ◌<◌, ◌≤◌, min, Option, Result, Ok, Err, MatchOption, MatchResult, List, ◌++◌, drop, length}
use Rattle.std.specs.BTreeMap.{is_at, insert_entry}
use Rattle.std.specs.Map.{lookup, set_value, remove_entry}
use Rattle.std.specs.Ordering.{nat_cmp}
use Rattle.dt_pack.specs.Session as pack
use Rattle.dt_unpack.specs.Session as unpack
use Rattle.dt_space.specs.declared.fault.SpaceFault.{SpaceFault}
use Rattle.dt_space.specs.declared.fault.SpaceFault.TheVariants.{NoSuchSession, BadArgument, NoRoom, Spent, NoMemory}
use Rattle.dt_space.specs.declared.number.Operation.{Operation}
use Rattle.dt_space.specs.declared.number.Progress.{Progress}
use Rattle.dt_space.specs.declared.number.Receipt.{Receipt}
use Rattle.dt_space.specs.declared.session.Session.{Session}
use Rattle.dt_space.specs.declared.session.Session.TheVariants.{Pack, Unpack}
use Rattle.dt_space.specs.Packing.{IsReady, IsPackRefusal, IsUnpackRefusal, packing, unpacking}
use Rattle.dt_space.specs.Space.{Space}

-- the session of a number
abbrev pub session_at : Space → ℕ → Option Session
session_at s n = lookup (is_at (nat_cmp n)) s.sessions

-- another session in the place of the one that a number stands for
abbrev pub with_session : Space → ℕ → Session → Space
with_session s n session = record s { sessions = set_value (is_at (nat_cmp n)) s.sessions session }

abbrev pub without_session : Space → ℕ → Space
without_session s n = record s { sessions = remove_entry (is_at (nat_cmp n)) s.sessions }

-- a session under a number that no session had before: how many were begun
abbrev pub begun_with : Space → Session → Space
begun_with s session = record s { sessions = insert_entry nat_cmp s.sessions s.begun session; begun = s.begun + 1 }

abbrev pub Begins : Space → Space → ℕ → Session → Type 0
Begins old new n session = (n ≡ old.begun) × (new ≡ begun_with old session)

-- why no session begins: all numbers were used; want of memory is tied to nothing
abbrev pub IsFullOfSessions : Space → SpaceFault → Type 0
IsFullOfSessions s Spent = s.begun ≡ 18446744073709551615
IsFullOfSessions s NoMemory = Unit {0}
IsFullOfSessions s fault = ⊥

abbrev pub IsOpenPackRefusal : Space → Operation → ℕ → SpaceFault → Type 0
IsOpenPackRefusal s op len Spent = s.begun ≡ 18446744073709551615
IsOpenPackRefusal s op len fault = IsPackRefusal s op len fault

abbrev pub IsOpenUnpackRefusal : Space → Operation → ℕ → SpaceFault → Type 0
IsOpenUnpackRefusal s op len Spent = s.begun ≡ 18446744073709551615
IsOpenUnpackRefusal s op len fault = IsUnpackRefusal s op len fault

-- a new number stands for a session over the operation; a refusal changes nothing
abbrev pub IsOpenPackAnswer : Space → Space → Operation → ℕ → Result ℕ SpaceFault → Type 0
IsOpenPackAnswer old new op len answer =
    MatchResult answer (λ n. IsReady old op (λ t. Begins old new n (Pack (packing op len t)))) (λ fault. (new ≡ old) × IsOpenPackRefusal old op len fault)

abbrev pub IsOpenUnpackAnswer : Space → Space → Operation → ℕ → Result ℕ SpaceFault → Type 0
IsOpenUnpackAnswer old new op len answer =
    MatchResult answer (λ n. IsReady old op (λ t. Begins old new n (Unpack (unpacking op len t)))) (λ fault. (new ≡ old) × IsOpenUnpackRefusal old op len fault)

-- the number stands for no session any more
abbrev pub IsCloseAnswer : Space → Space → ℕ → Result (Unit {0}) SpaceFault → Type 0
IsCloseAnswer old new n answer =
    MatchOption (session_at old n) ((answer ≡ Err NoSuchSession) × (new ≡ old)) (λ session. (answer ≡ Ok tt) × (new ≡ without_session old n))

-- what is taken from a session, of a buffer as it is now: the next packed bytes, as many as have room or are still to come; refused where
-- the buffer has another length than at opening, and where the session doesn't pack
abbrev pub IsTaken : Session → List ℕ → List ℕ → List ℕ → Result ℕ SpaceFault → Type 0
IsTaken (Pack p) buffer out out' answer =
    MatchResult answer
    (λ n. (length buffer ≡ p.buf_len) × (n ≡ min (length out) (pack.rest_of p)) × (out' ≡ pack.next_bytes p buffer n ++ drop n out))
    (λ fault. (fault ≡ BadArgument) × (length buffer ≢ p.buf_len) × (out' ≡ out))
IsTaken (Unpack u) buffer out out' answer = (answer ≡ Err NoSuchSession) × (out' ≡ out)

-- the session afterwards
abbrev pub taken : Session → Result ℕ SpaceFault → Session
taken (Pack p) (Ok n) = Pack (pack.after p n)
taken session answer = session

abbrev pub IsTakeAnswer : Space → Space → ℕ → List ℕ → List ℕ → List ℕ → Result ℕ SpaceFault → Type 0
IsTakeAnswer old new n buffer out out' answer =
    MatchOption (session_at old n)
    ((answer ≡ Err NoSuchSession) × (new ≡ old) × (out' ≡ out))
    (λ session. IsTaken session buffer out out' answer × (new ≡ with_session old n (taken session answer)))

-- how many elements a piece completes, and how many bytes of a further one are held
abbrev pub receipt_of : unpack.Session → List ℕ → Receipt
receipt_of u piece = record { completed = length (unpack.completed u piece); held = length (unpack.after u piece).held }

-- what is given to a session sets the elements of the buffer that it completes, and no other byte; refused where the buffer has another
-- length than at opening, where the piece is longer than what is still to come, and where the session doesn't unpack
abbrev pub IsGivenRefusal : unpack.Session → List ℕ → List ℕ → SpaceFault → Type 0
IsGivenRefusal u buffer piece BadArgument = length buffer ≢ u.buf_len
IsGivenRefusal u buffer piece NoRoom = (length buffer ≡ u.buf_len) × (unpack.rest_of u < length piece)
IsGivenRefusal u buffer piece fault = ⊥

abbrev pub IsGiven : Session → List ℕ → List ℕ → List ℕ → Result Receipt SpaceFault → Type 0
IsGiven (Unpack u) buffer buffer' piece answer =
    MatchResult answer
    (λ r. (length buffer ≡ u.buf_len) × (r ≡ receipt_of u piece) × (buffer' ≡ unpack.buffer_after u buffer piece))
    (λ fault. IsGivenRefusal u buffer piece fault × (buffer' ≡ buffer))
IsGiven (Pack p) buffer buffer' piece answer = (answer ≡ Err NoSuchSession) × (buffer' ≡ buffer)

abbrev pub given : Session → List ℕ → Result Receipt SpaceFault → Session
given (Unpack u) piece (Ok r) = Unpack (unpack.after u piece)
given session piece answer = session

abbrev pub IsGiveAnswer : Space → Space → ℕ → List ℕ → List ℕ → List ℕ → Result Receipt SpaceFault → Type 0
IsGiveAnswer old new n buffer buffer' piece answer =
    MatchOption (session_at old n)
    ((answer ≡ Err NoSuchSession) × (new ≡ old) × (buffer' ≡ buffer))
    (λ session. IsGiven session buffer buffer' piece answer × (new ≡ with_session old n (given session piece answer)))

-- a session that packs goes to any of its packed bytes, or to the end; refused where there are fewer, and where the session doesn't pack
abbrev pub IsSought : Session → ℕ → Result (Unit {0}) SpaceFault → Type 0
IsSought (Pack p) byte answer = MatchResult answer (λ done. byte ≤ pack.total_of p) (λ fault. (fault ≡ BadArgument) × (pack.total_of p < byte))
IsSought (Unpack u) byte answer = answer ≡ Err NoSuchSession

-- the session afterwards
abbrev pub sought : Session → ℕ → Result (Unit {0}) SpaceFault → Session
sought (Pack p) byte (Ok done) = Pack (pack.at_byte p byte)
sought session byte answer = session

abbrev pub IsSeekAnswer : Space → Space → ℕ → ℕ → Result (Unit {0}) SpaceFault → Type 0
IsSeekAnswer old new n byte answer =
    MatchOption (session_at old n)
    ((answer ≡ Err NoSuchSession) × (new ≡ old))
    (λ session. IsSought session byte answer × (new ≡ with_session old n (sought session byte answer)))

-- how many packed bytes a session has in all, and how many of them were passed
abbrev pub progress_of : Session → Progress
progress_of (Pack p) = record { total = pack.total_of p; position = p.position }
progress_of (Unpack u) = record { total = unpack.total_of u; position = u.given }

abbrev pub IsProgressAnswer : Space → ℕ → Result Progress SpaceFault → Type 0
IsProgressAnswer s n answer = MatchOption (session_at s n) (answer ≡ Err NoSuchSession) (λ session. answer ≡ Ok (progress_of session))
