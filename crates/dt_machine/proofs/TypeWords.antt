-- What refuses a command that uses a type.
use Rattle.std.proofs.Common.{◌≡◌, ℕ, List, Some, IsTrue}
use Rattle.dt_kinds.specs.Name.{is_left_out}
use Rattle.dt_names.specs.declared.kept.Kept.{Kept}
use Rattle.dt_names.specs.declared.stop.Stop.{Stop}
use Rattle.dt_names.specs.declared.stop.Stop.TheVariants.{Refused, NoMemory}
use Rattle.dt_names.specs.Missing.{IsMissing}
use Rattle.dt_names.proofs.WordLemmas.{stands_known, stands_supported, left_out_known}
use Rattle.dt_reply.specs.declared.refusal.Refusal.{Refusal}
use Rattle.dt_reply.specs.declared.refusal.Refusal.TheVariants as refusal
use Rattle.dt_script.specs.declared.command.Command.{Command}
use Rattle.dt_machine.specs.Outcome.{IsStop}
use Rattle.dt_machine.specs.Refusal.{type_row, conditions}
use Rattle.dt_machine.specs.Row.{Row, IsFirst}
use Rattle.dt_machine.specs.State.{State, type_of, is_unknown}
use Rattle.dt_machine.proofs.Rows.{refused, contrary}

-- a word that stands for a type isn't refused by what it lacks
pub is_known : (s : State) (word : List ℕ) (kept : Kept) → type_of s word ≡ Some kept → ¬ IsTrue (is_unknown s word)
is_known s word kept is = contrary (is_unknown s word) (stands_known s.types word kept is)

pub is_supported : (s : State) (word : List ℕ) (kept : Kept) → type_of s word ≡ Some kept → ¬ IsTrue (is_left_out word)
is_supported s word kept is = contrary (is_left_out word) (stands_supported s.types word kept is)

-- why a type word stands for nothing is the first condition of a command that uses it
missing_first : (s : State) (word : List ℕ) (more : Row) (refusal : Refusal) → IsMissing s.types word (Refused refusal) → IsFirst (type_row s word more) refusal
missing_first s word more refusal.UnknownName is = is
missing_first s word more refusal.UnsupportedKind is = (contrary (is_unknown s word) (left_out_known s.types word is), is)
missing_first s word more other is = absurd is

pub missing : (s : State) (word : List ℕ) (command : Command) (more : Row)
    → ((refusal : Refusal) → IsFirst (type_row s word more) refusal → IsFirst (conditions s command) refusal) → (stop : Stop) → IsMissing s.types word stop
    → IsStop s command stop
missing s word command more row (Refused refusal) is = refused s command refusal (row refusal (missing_first s word more refusal is))
missing s word command more row NoMemory is = tt
