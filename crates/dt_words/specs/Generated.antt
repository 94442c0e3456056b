-- What `gen N` writes.
use Rattle.std.specs.Prelude.{◌≡◌, ℕ, Bool, true, List, ◌++◌, codes}
use Rattle.dt_gen.specs.Script.{script_of}
use Rattle.dt_machine.specs.Answers.{Run}
use Rattle.dt_machine.specs.State.{State, first_state}
use Rattle.dt_machine.specs.declared.state.Totals.{Totals}
use Rattle.dt_reply.specs.declared.reply.Reply.{Reply}
use Rattle.dt_script.specs.Lines.{script_lines}
use Rattle.dt_words.specs.Checked.{spaced_number}

-- the line of what was counted in the script of a number
abbrev pub text_of_totals : ℕ → Totals → List ℕ
text_of_totals n totals =
    codes "gen" ++ spaced_number n
    ++ codes " commands" ++ spaced_number totals.commands
    ++ codes " taken" ++ spaced_number totals.taken
    ++ codes " given" ++ spaced_number totals.given
    ++ codes " elements" ++ spaced_number totals.elements
    ++ codes " cost" ++ spaced_number totals.cost
    ++ codes "\n"

-- what was counted behind the last line of the script of a number, and no refusal is told of
pub record IsGenerated (n : ℕ) (text : List ℕ) (accepted : Bool) : Type 0 where
  pub replies : List Reply
  pub last : State
  pub run : Run first_state (script_lines (script_of n)) replies last
  pub written : text ≡ text_of_totals n last.totals
  pub told : accepted ≡ true
