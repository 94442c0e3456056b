-- What a command comes to before anything changes. No public clause cites this module.
use Rattle.std.specs.BTreeMap.{is_at}
use Rattle.std.specs.Cmp.Lexicographic.{slice_cmp}
use Rattle.std.specs.Map.{set_value}
use Rattle.std.specs.Option.{IsSomeAnd}
use Rattle.std.specs.Ordering.{nat_cmp}
use Rattle.std.specs.Prelude.{◌≡◌, ◌≢◌, length, true, false, IsTrue, List, ℕ, ◌<◌, Option, Some, None, IsSome, Result, MatchResult}
use Rattle.dt_copy.specs.Copied.{copied}
use Rattle.dt_reduce.specs.Folded.{folded}
use Rattle.dt_reduce.specs.Ranks.{elements_at, CanReduceAll}
use Rattle.dt_reduce.specs.Reduced.{reduced}
use Rattle.dt_reply.specs.declared.refusal.Refusal.TheVariants as refusal
use Rattle.dt_reply.specs.Reply.{is_accepted}
use Rattle.dt_script.specs.declared.command.Command.{Command}
use Rattle.dt_script.specs.declared.command.Command.TheVariants.{Give}
use Rattle.dt_type.specs.Basic.{is_basic}
use Rattle.dt_type.specs.declared.fault.CtorFault.{CtorFault}
use Rattle.dt_type.specs.declared.fault.CtorFault.TheVariants as fault
use Rattle.dt_machine.specs.declared.outcome.Change.{Change}
use Rattle.dt_machine.specs.declared.outcome.Change.TheVariants.{Nothing, AddType, Commit, Free, AddBuffer, SetWeights, AddCost, OpenSession, SeekSession, TakeBytes, CloseSession, CopyBytes, ReduceBytes, ReduceRanks}
use Rattle.dt_machine.specs.declared.outcome.Outcome.{Outcome}
use Rattle.dt_names.specs.declared.stop.Stop.{Stop}
use Rattle.dt_names.specs.declared.stop.Stop.TheVariants.{Refused, NoMemory}
use Rattle.dt_names.specs.declared.kept.Kept.{Kept}
use Rattle.dt_machine.specs.Refusal.{IsRefusedBy, IsAllowed}
use Rattle.dt_machine.specs.Joins.{join_of}
use Rattle.dt_machine.specs.State.{State, with_type, with_committed, without_type, with_buffer, with_session, with_moved, without_session, with_taken, with_weights, with_cost, with_count}
use Rattle.dt_names.specs.Names.{under}
use Rattle.dt_sessions.specs.declared.session.Opened.{Opened}
use Rattle.dt_sessions.specs.Open.{CanSeek, IsOver, IsSmall}
use Rattle.dt_machine.specs.Step.{Performs}

-- a command that gives a piece to a session
abbrev pub IsGift : Command → Type 0
IsGift command = (session : List ℕ) × (piece : List ℕ) × (command ≡ Give session piece)

-- where a name stands for a type, the state with this type committed
abbrev pub with_commit : State → List ℕ → Option Kept → State
with_commit s name None = s
with_commit s name (Some kept) = with_committed s name kept

-- where a name stands for a session, the state with this session at another packed byte
abbrev pub with_seek : State → List ℕ → ℕ → Option Opened → State
with_seek s name byte None = s
with_seek s name byte (Some opened) = with_moved s name opened byte

-- buffers by name, where both of two stand with what these make of them in the place of the second
abbrev pub made_in : List (List ℕ × List ℕ) → List ℕ → Option (List ℕ) → Option (List ℕ) → (List ℕ → List ℕ → List ℕ) → List (List ℕ × List ℕ)
made_in buffers name (Some old) (Some held) makes = set_value (is_at (slice_cmp nat_cmp name)) buffers (makes old held)
made_in buffers name old held makes = buffers

-- and where one stands with what is made of it in its place
abbrev pub set_in : List (List ℕ × List ℕ) → List ℕ → Option (List ℕ) → (List ℕ → List ℕ) → List (List ℕ × List ℕ)
set_in buffers name (Some held) makes = set_value (is_at (slice_cmp nat_cmp name)) buffers (makes held)
set_in buffers name None makes = buffers

-- the state behind a change
abbrev pub changed : Change → State → State
changed Nothing s = s
changed (AddType name kept) s = with_type s name kept
changed (Commit name) s = with_commit s name (under name s.types)
changed (Free name) s = without_type s name
changed (AddBuffer name bytes) s = with_buffer s name bytes
changed (SetWeights w) s = with_weights s w
changed (AddCost cost) s = with_cost s cost
changed (OpenSession name opened) s = with_session s name opened
changed (SeekSession name byte) s = with_seek s name byte (under name s.sessions)
changed (TakeBytes name byte count) s = with_taken (with_seek s name byte (under name s.sessions)) count
changed (CloseSession name) s = without_session s name
changed (CopyBytes plan source target) s =
    record s { buffers = made_in s.buffers target (under source s.buffers) (under target s.buffers) (copied plan.source plan.target) }
changed (ReduceBytes op plan source target) s =
    record s { buffers = made_in s.buffers target (under source s.buffers) (under target s.buffers) (reduced (join_of op) plan.source plan.target) }
changed (ReduceRanks op ranks merges origin target) s =
    record s { buffers = set_in s.buffers target (under target s.buffers) (folded (join_of op) (elements_at ranks origin) ranks.rows) }

-- two buffers that differ, and have these lengths
abbrev pub CanMake : State → List ℕ → List ℕ → ℕ → ℕ → Type 0
CanMake s source target source_len target_len =
    (source ≢ target) × IsSomeAnd (under source s.buffers) (λ bytes. length bytes ≡ source_len)
    × IsSomeAnd (under target s.buffers) (λ bytes. length bytes ≡ target_len)

-- what a change asks of the state: a new name, of which more may be made, and a basic type committed; a name that stands, of no basic type;
-- a new buffer that is small; a buffer that stands, for a session; a packed byte to which a session can go; and the buffers of a plan
abbrev pub CanChange : Change → State → Type 0
CanChange Nothing s = Unit {0}
CanChange (AddType name kept) s =
    (under name s.types ≡ None) × (s.made < 18446744073709551615) × (is_basic kept.ty ≡ true → kept.committed ≡ true)
CanChange (Commit name) s = IsSome (under name s.types)
CanChange (Free name) s = (kept : Kept) → under name s.types ≡ Some kept → is_basic kept.ty ≡ false
CanChange (AddBuffer name bytes) s = (under name s.buffers ≡ None) × IsSmall bytes
CanChange (SetWeights w) s = Unit {0}
CanChange (AddCost cost) s = Unit {0}
CanChange (OpenSession name opened) s = IsOver s.buffers opened
CanChange (SeekSession name byte) s = IsSomeAnd (under name s.sessions) (λ opened. CanSeek opened.session byte)
CanChange (TakeBytes name byte count) s = IsSomeAnd (under name s.sessions) (λ opened. CanSeek opened.session byte)
CanChange (CloseSession name) s = Unit {0}
CanChange (CopyBytes plan source target) s = CanMake s source target plan.source_len plan.target_len
CanChange (ReduceBytes op plan source target) s = CanMake s source target plan.source_len plan.target_len
CanChange (ReduceRanks op ranks merges origin target) s = IsSomeAnd (under target s.buffers) (λ held. CanReduceAll ranks merges origin (length held))

-- a command that is allowed: its reply, and the change that it makes
pub record IsOutcome (s : State) (command : Command) (o : Outcome) : Type 0 where
  pub allowed : IsAllowed s command
  pub can_change : CanChange o.change s
  pub performs : Performs command s o.reply (with_count (changed o.change s))
  pub accepted : IsTrue (is_accepted o.reply)

-- why it stops: a refusal, or want of memory, which is tied to nothing
abbrev pub IsStop : State → Command → Stop → Type 0
IsStop s command (Refused refusal) = IsRefusedBy s command refusal
IsStop s command NoMemory = Unit {0}

abbrev pub ComesTo : State → Command → Result Outcome Stop → Type 0
ComesTo s command result = MatchResult result (IsOutcome s command) (IsStop s command)

-- a constructor's fault as a refusal
abbrev pub stop_by : CtorFault → Stop
stop_by fault.BadArgument = Refused refusal.BadArgument
stop_by fault.Overflow = Refused refusal.Overflow
stop_by fault.TooDeep = Refused refusal.TooDeep
stop_by fault.TooHeavy = Refused refusal.TooHeavy
stop_by fault.NoMemory = NoMemory
