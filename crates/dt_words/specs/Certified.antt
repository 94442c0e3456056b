-- What `certify NAME` writes for a script.
use Rattle.std.specs.Prelude.{◌≡◌, ℕ, Bool, true, false, List, Option, Some, None}
use Rattle.dt_cert.specs.Certificate.{Certificate}
use Rattle.dt_cert.specs.Shown.{IsShown}
use Rattle.dt_machine.specs.Answers.{Run}
use Rattle.dt_machine.specs.Refusal.{IsRefusedBy}
use Rattle.dt_machine.specs.State.{State, first_state, type_of}
use Rattle.dt_names.specs.declared.kept.Kept.{Kept}
use Rattle.dt_names.specs.declared.stop.Stop as stop
use Rattle.dt_names.specs.declared.stop.Stop.TheVariants.{Refused, NoMemory}
use Rattle.dt_reply.specs.declared.refusal.Refusal.{Refusal}
use Rattle.dt_reply.specs.declared.reply.Reply.{Reply}
use Rattle.dt_reply.specs.declared.reply.Reply.TheVariants as reply
use Rattle.dt_reply.specs.Reply.{text_of}
use Rattle.dt_script.specs.declared.command.Command.TheVariants.{Normalise}
use Rattle.dt_script.specs.Lines.{script_lines}
use Rattle.dt_type.specs.Datatype.{entries_of}
use Rattle.dt_words.specs.Script.{first_refused}

-- a text shows a least tree of the type that a word stands for, under the weights in force
pub record IsCertificateOf (s : State) (name text : List ℕ) : Type 0 where
  pub kept : Kept
  pub stands : type_of s name ≡ Some kept
  pub certificate : Certificate
  pub shown : IsShown text certificate
  pub entries : certificate.entries ≡ entries_of kept.ty
  pub weights : certificate.weights ≡ s.weights

-- there is none, as `normalise NAME` is refused; want of memory tells nothing
abbrev pub IsWithout : State → List ℕ → stop.Stop → Type 0
IsWithout s name (Refused refusal) = IsRefusedBy s (Normalise name) refusal
IsWithout s name NoMemory = Unit {0}

-- What is written behind a script: its first refusal; where it has none, the refusal that `normalise NAME` would have behind it; and
-- where it would have none, a certificate of the type.
abbrev pub Certifies : Option Reply → State → List ℕ → List ℕ → Bool → Type 0
Certifies (Some first) s name text accepted = (accepted ≡ false) × (text ≡ text_of first)
Certifies None s name text false = (refusal : Refusal) × IsRefusedBy s (Normalise name) refusal × (text ≡ text_of (reply.Refused refusal))
Certifies None s name text true = IsCertificateOf s name text

-- what is written for a script, and whether it is a certificate
pub record IsCertified (input name text : List ℕ) (accepted : Bool) : Type 0 where
  pub replies : List Reply
  pub last : State
  pub run : Run first_state (script_lines input) replies last
  pub certifies : Certifies (first_refused replies) last name text accepted
