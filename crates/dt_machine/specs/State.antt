-- What a machine remembers.
use Rattle.std.specs.Prelude.{ℕ, ◌+◌, ◌-◌, ◌^◌, min, Bool, true, is_some, List, [], Option}
use Rattle.std.specs.BTreeMap.{is_at, insert_entry}
use Rattle.std.specs.Cmp.Lexicographic.{slice_cmp}
use Rattle.std.specs.Map.{set_value, remove_entry}
use Rattle.std.specs.Option.{option_map}
use Rattle.std.specs.Ordering.{nat_cmp}
use Rattle.dt_type.specs.declared.datatype.Seen.{Seen}
use Rattle.dt_names.specs.declared.kept.Kept.{Kept}
use Rattle.dt_names.specs.Names.{under, type_in, is_basic_in, is_unknown_in, is_taken_in, bytes_in}
use Rattle.dt_sessions.specs.declared.session.Opened.{Opened}
use Rattle.dt_sessions.specs.Open.{packed_in, opened_at, opened_given, buffer_in}
use Rattle.dt_tree.specs.Weights.{Weights, default_weights}
use Rattle.dt_machine.specs.declared.state.Totals.{Totals}

-- the types that stand, with their flags, the buffers, and the sessions that are open, each by name and in the order of the names; how
-- many types were made, freed ones too; what the parts of trees cost; and what was counted
pub record State : Type 0 where
  pub types : List (List ℕ × Kept)
  pub made : ℕ
  pub buffers : List (List ℕ × List ℕ)
  pub sessions : List (List ℕ × Opened)
  pub weights : Weights
  pub totals : Totals

-- before the first line
abbrev pub no_totals : Totals
no_totals = record { commands = 0; taken = 0; given = 0; elements = 0; cost = 0 }

abbrev pub first_state : State
first_state = record { types = []; made = 0; buffers = []; sessions = []; weights = default_weights; totals = no_totals }

-- what a type word stands for: a basic type where it begins as the names of MPI do, else the type of that name
abbrev pub type_of : State → List ℕ → Option Kept
type_of s word = type_in s.types word

abbrev pub old_of : State → List ℕ → Option Seen
old_of s word = option_map (λ kept. kept.ty) (type_of s word)

-- whether a type word stands for a basic type
abbrev pub is_basic_word : State → List ℕ → Bool
is_basic_word s word = is_basic_in s.types word

-- a type word that stands for nothing, and isn't the name of a datatype that is left out
abbrev pub is_unknown : State → List ℕ → Bool
is_unknown s word = is_unknown_in s.types word

abbrev pub buffer_of : State → List ℕ → Option (List ℕ)
buffer_of s name = under name s.buffers

-- a name that no new type may have: it stands, or begins as those of MPI do
abbrev pub is_type_taken : State → List ℕ → Bool
is_type_taken s name = is_taken_in s.types name

abbrev pub is_buffer_taken : State → List ℕ → Bool
is_buffer_taken s name = is_some (buffer_of s name)

abbrev pub session_of : State → List ℕ → Option Opened
session_of s name = under name s.sessions

abbrev pub is_session_taken : State → List ℕ → Bool
is_session_taken s name = is_some (session_of s name)

-- the packed bytes of all open sessions together
abbrev pub packed_open : State → ℕ
packed_open s = packed_in s.sessions

-- the bytes of all buffers together
abbrev pub bytes_held : State → ℕ
bytes_held s = bytes_in s.buffers

-- the state with one more name
abbrev pub with_type : State → List ℕ → Kept → State
with_type s name kept = record s { types = insert_entry (slice_cmp nat_cmp) s.types name kept; made = s.made + 1 }

-- the state where a name that stands for this type stands for the same type, committed
abbrev pub with_committed : State → List ℕ → Kept → State
with_committed s name kept =
    record s { types = set_value (is_at (slice_cmp nat_cmp name)) s.types (record { ty = kept.ty; committed = true }) }

-- the state without a name
abbrev pub without_type : State → List ℕ → State
without_type s name = record s { types = remove_entry (is_at (slice_cmp nat_cmp name)) s.types }

abbrev pub with_buffer : State → List ℕ → List ℕ → State
with_buffer s name bytes = record s { buffers = insert_entry (slice_cmp nat_cmp) s.buffers name bytes }

-- the state with other bytes in a buffer that stands
abbrev pub with_bytes : State → List ℕ → List ℕ → State
with_bytes s name bytes = record s { buffers = set_value (is_at (slice_cmp nat_cmp name)) s.buffers bytes }

-- the state with one more session, with a session at another packed byte, and without one
abbrev pub with_session : State → List ℕ → Opened → State
with_session s name opened = record s { sessions = insert_entry (slice_cmp nat_cmp) s.sessions name opened }

abbrev pub with_moved : State → List ℕ → Opened → ℕ → State
with_moved s name opened byte = record s { sessions = set_value (is_at (slice_cmp nat_cmp name)) s.sessions (opened_at opened byte) }

-- the state where a piece was given to the session of a name, whose buffer had these bytes
abbrev pub with_given : State → List ℕ → Opened → List ℕ → List ℕ → State
with_given s name opened bytes piece = record s {
  buffers = set_value (is_at (slice_cmp nat_cmp opened.buffer)) s.buffers (buffer_in opened.session bytes piece);
  sessions = set_value (is_at (slice_cmp nat_cmp name)) s.sessions (opened_given opened piece);
}

abbrev pub without_session : State → List ℕ → State
without_session s name = record s { sessions = remove_entry (is_at (slice_cmp nat_cmp name)) s.sessions }

-- so many packed bytes more were taken
abbrev pub with_taken : State → ℕ → State
with_taken s n = record s { totals = record s.totals { taken = min (s.totals.taken + n) (2 ^ 64 - 1) } }

-- so many packed bytes more were given, and so many elements more were completed
abbrev pub with_received : State → ℕ → ℕ → State
with_received s n elements = record s {
  totals = record s.totals { given = min (s.totals.given + n) (2 ^ 64 - 1); elements = min (s.totals.elements + elements) (2 ^ 64 - 1) };
}

abbrev pub with_weights : State → Weights → State
with_weights s w = record s { weights = w }

-- the cost of one more tree was told
abbrev pub with_cost : State → ℕ → State
with_cost s cost = record s { totals = record s.totals { cost = min (s.totals.cost + cost) (2 ^ 64 - 1) } }

-- one more command was accepted
abbrev pub with_count : State → State
with_count s = record s { totals = record s.totals { commands = min (s.totals.commands + 1) (2 ^ 64 - 1) } }
