-- How far a run has come, and what was written. No public clause cites this module.
use Rattle.std.specs.Prelude.{◌≡◌, ℕ, Bool, true, false, List, ◌++◌, Option, Result, Ok, Err}
use Rattle.std.specs.Io.KnownBytes.{Appends}
use Rattle.dt_base.specs.Transfer.{AppendsFront}
use Rattle.dt_kinds.specs.declared.memory.NoMemory as memory
use Rattle.dt_machine.specs.Answers.{Run, text_of_all, are_accepted}
use Rattle.dt_script.specs.Lines.{script_lines}
use Rattle.dt_reply.specs.declared.reply.Reply.{Reply}
use Rattle.dt_machine.specs.State.{State, first_state}
use Rattle.dt_words.specs.declared.Said.{Said}
use Rattle.dt_call.specs.declared.words.Asked.{Asked}
use Rattle.dt_call.specs.declared.status.Status.{Status}
use Rattle.dt_call.specs.declared.status.Status.TheVariants.{Done, Refused, Usage, ReadFault, WriteFault, NoMemory, TooLong}
use Rattle.dt_call.specs.Result.{Says, IsShortFor}

-- the lines before the rest were run and led to this state, and their replies were written
pub record Progress (input rest : List ℕ) (state : State) (accepted : Bool) (old new : Option (List ℕ)) : Type 0 where
  pub lines : List (List ℕ)
  pub replies : List Reply
  pub split : script_lines input ≡ lines ++ script_lines rest
  pub run : Run first_state lines replies state
  pub written : Appends old new (text_of_all replies)
  pub told : accepted ≡ are_accepted replies

-- what was written for an input, by what is asked and by the status
abbrev pub WroteText : Asked → Status → List ℕ → List ℕ → Type 0
WroteText asked Done input text = Says asked input text true
WroteText asked Refused input text = Says asked input text false
WroteText asked Usage input text = ⊥
WroteText asked ReadFault input text = ⊥
WroteText asked WriteFault input text = IsShortFor asked input text WriteFault
WroteText asked NoMemory input text = IsShortFor asked input text NoMemory
WroteText asked TooLong input text = ⊥

abbrev pub Wrote : Asked → List ℕ → Status → Option (List ℕ) → Option (List ℕ) → Type 0
Wrote asked input status old new = (text : List ℕ) × Appends old new text × WroteText asked status input text

-- what was written of what was said, by the status
abbrev pub WroteSaid : Result Said memory.NoMemory → Status → Option (List ℕ) → Option (List ℕ) → Type 0
WroteSaid (Ok said) Done old new = (said.accepted ≡ true) × Appends old new said.text.items
WroteSaid (Ok said) Refused old new = (said.accepted ≡ false) × Appends old new said.text.items
WroteSaid (Ok said) WriteFault old new = AppendsFront old new said.text.items
WroteSaid (Err error) NoMemory old new = new ≡ old
WroteSaid said status old new = ⊥
