-- What doesn't hang on how packed bytes are cut into pieces, nor on which of two sessions is served first.
use Rattle.std.specs.Prelude.{◌≡◌, ℕ, ◌<◌, ◌^◌, pos, IsTrue, List, [], ◌∷◌, map, Some}
use Rattle.std.specs.List.{sum, flat_map, AllByRecursion}
use Rattle.dt_map.specs.declared.entry.Entry.{Entry}
use Rattle.dt_map.specs.Elements.{are_inside}
use Rattle.dt_pack.specs.Session as pack
use Rattle.dt_reply.specs.declared.refusal.Refusal.TheVariants.{Truncated}
use Rattle.dt_reply.specs.declared.reply.Reply.{Reply}
use Rattle.dt_reply.specs.declared.reply.Reply.TheVariants.{Packed}
use Rattle.dt_script.specs.declared.command.Command.{Command}
use Rattle.dt_script.specs.declared.command.Command.TheVariants.{Take, Seek, Give}
use Rattle.dt_sessions.specs.declared.session.Opened.{Opened}
use Rattle.dt_sessions.specs.declared.session.Session.{Session}
use Rattle.dt_sessions.specs.declared.session.Session.TheVariants.{Pack, Unpack}
use Rattle.dt_sessions.specs.Open.{HoldsOpen}
use Rattle.dt_unpack.specs.Laws.{AreApart, set_by}
use Rattle.dt_unpack.specs.Session as unpack
use Rattle.dt_machine.specs.declared.state.Totals.{Totals}
use Rattle.dt_machine.specs.Refusal.{Holds, IsAllowed}
use Rattle.dt_machine.specs.State.{State, first_state, session_of}
use Rattle.dt_machine.specs.Step.{Obeys, Step}

-- what is known of a session that was opened: its elements lie in its buffer; an unpack session's don't overlap, and it holds what doesn't
-- complete an element yet
abbrev pub IsSoundIn : Session → Type 0
IsSoundIn (Pack s) = IsTrue (are_inside s.buf_len (pack.placed s))
IsSoundIn (Unpack s) = (number : ℕ) × unpack.IsOpen s number

-- what is counted stands within 64 bits
pub record AreCounted (totals : Totals) : Type 0 where
  pub taken : totals.taken < 2 ^ 64
  pub given : totals.given < 2 ^ 64
  pub elements : totals.elements < 2 ^ 64

-- what is known of a state in which lines were obeyed: each session is over a buffer that stands, of its length
pub record IsSound (s : State) : Type 0 where
  pub standing : HoldsOpen s.buffers s.sessions
  pub sessions : AllByRecursion (λ entry. IsSoundIn entry.1.session) s.sessions
  pub counted : AreCounted s.totals

-- commands that are obeyed one after another, with their replies, from a state to a state
abbrev pub ObeysAll : State → List Command → List Reply → State → Type 0
ObeysAll s [] [] t = t ≡ s
ObeysAll s (command ∷ commands) (reply ∷ replies) t = (mid : State) × Obeys command s reply mid × ObeysAll mid commands replies t
ObeysAll s [] (reply ∷ replies) t = ⊥
ObeysAll s (command ∷ commands) [] t = ⊥

-- takes of these sizes from a session, and gives of these pieces to it
abbrev pub takes : List ℕ → List ℕ → List Command
takes session sizes = map (λ size. Take session (pos size)) sizes

abbrev pub gives : List ℕ → List (List ℕ) → List Command
gives session pieces = map (λ piece. Give session piece) pieces

-- pieces joined, and the packed bytes of replies joined
abbrev pub joined : List (List ℕ) → List ℕ
joined pieces = flat_map (λ piece. piece) pieces

abbrev pub bytes_told : Reply → List ℕ
bytes_told (Packed bytes) = bytes
bytes_told reply = []

abbrev pub all_told : List Reply → List ℕ
all_told replies = flat_map bytes_told replies

-- a state, but for the total of commands
abbrev pub but_commands : State → State
but_commands s = record s { totals = record s.totals { commands = 0 } }

-- Two lists of sizes with one sum give, by takes from a session, the same joined bytes; the states after are equal but for the total of
-- commands.
abbrev pub TakesAreJoined : Type 0
TakesAreJoined =
    (s t u : State) (session sizes others : List ℕ) (replies also : List Reply) → AreCounted s.totals → sum sizes ≡ sum others
    → ObeysAll s (takes session sizes) replies t → ObeysAll s (takes session others) also u
    → (all_told replies ≡ all_told also) × (but_commands t ≡ but_commands u)

-- Two ways of cutting one piece that isn't truncated give, by gives to a session, the same buffers and the same session; the states after
-- are equal but for the total of commands.
abbrev pub GivesAreJoined : Type 0
GivesAreJoined =
    (s t u : State) (session : List ℕ) (pieces others : List (List ℕ)) (replies also : List Reply) → IsSound s → joined pieces ≡ joined others
    → (¬ Holds s (Give session (joined pieces)) Truncated) → ObeysAll s (gives session pieces) replies t → ObeysAll s (gives session others) also u
    → but_commands t ≡ but_commands u

-- a command that takes from a session, goes to a packed byte of it, or gives to it
abbrev pub IsOn : List ℕ → Command → Type 0
IsOn name (Take session len) = session ≡ name
IsOn name (Seek session byte) = session ≡ name
IsOn name (Give session piece) = session ≡ name
IsOn name command = ⊥

-- the elements of a session as they lie in its buffer, and those that a command completes: those of a give
abbrev pub placed_in : Session → List Entry
placed_in (Pack s) = pack.placed s
placed_in (Unpack s) = unpack.placed s

abbrev pub set_in : Session → List ℕ → List Entry
set_in (Pack s) piece = []
set_in (Unpack s) piece = set_by s piece

abbrev pub completed_by : Command → Opened → List Entry
completed_by (Give session piece) opened = set_in opened.session piece
completed_by command opened = []

-- the bytes of the elements that a command on a session completes lie in no element of another session in the same buffer
abbrev pub KeepsApart : State → Command → List ℕ → List ℕ → Type 0
KeepsApart s command session other =
    (o p : Opened) → session_of s session ≡ Some o → session_of s other ≡ Some p → o.buffer ≡ p.buffer → IsAllowed s command
    → AreApart (completed_by command o) (placed_in p.session)

-- Two commands on different sessions, where the elements that either completes keep apart from the other session's: what they reply and
-- change in one order they reply and change in the other.
abbrev pub OrderIsFree : Type 0
OrderIsFree =
    (s mid t : State) (one other : Command) (a b : List ℕ) (reply also : Reply) → IsSound s → IsOn a one → IsOn b other → (¬ (a ≡ b))
    → KeepsApart s one a b → KeepsApart s other b a → Obeys one s reply mid → Obeys other mid also t
    → (between : State) × Obeys other s also between × Obeys one between reply t

-- what is known of a state holds at first, and whatever line is obeyed
abbrev pub SoundIsKept : Type 0
SoundIsKept = IsSound first_state × ((s t : State) (line : List ℕ) (reply : Reply) → IsSound s → Step s line reply t → IsSound t)
