-- That every command of a generated script is accepted.
use Rattle.std.specs.Prelude.{◌≡◌, ℕ, Bool, List, ◌∷◌, ◌++◌, IsTrue}
use Rattle.std.specs.List.{AllByRecursion}
use Rattle.dt_gen.specs.Script.{script_of}
use Rattle.dt_machine.specs.Answers.{Run, Answers, are_accepted}
use Rattle.dt_machine.specs.Refusal.{IsAllowed}
use Rattle.dt_machine.specs.State.{State, first_state}
use Rattle.dt_reply.specs.declared.reply.Reply.{Reply}
use Rattle.dt_script.specs.declared.command.Command.{Command}
use Rattle.dt_script.specs.Line.{Does, IsLine}
use Rattle.dt_script.specs.Lines.{script_lines}

-- a line that means a command
abbrev pub MeansCommand : List ℕ → Type 0
MeansCommand line = (command : Command) × IsLine line (Does command)

-- Each line of the script of a number means a command: none is blank, a comment or a fault.
abbrev pub EveryLineIsACommand : Type 0
EveryLineIsACommand = (n : ℕ) → AllByRecursion MeansCommand (script_lines (script_of n))

-- Whatever lines of the script of a number were obeyed, one after another from the first state, nothing refuses the command of the next line.
abbrev pub EveryCommandIsAllowed : Type 0
EveryCommandIsAllowed =
    (n : ℕ) (front rest : List (List ℕ)) (line : List ℕ) (replies : List Reply) (s : State) → script_lines (script_of n) ≡ front ++ line ∷ rest
    → Run first_state front replies s → (command : Command) × IsLine line (Does command) × IsAllowed s command

-- However the lines of the script of a number are obeyed, one after another from the first state, no reply is a refusal.
abbrev pub EveryCommandIsAccepted : Type 0
EveryCommandIsAccepted =
    (n : ℕ) (replies : List Reply) (last : State) → Run first_state (script_lines (script_of n)) replies last → IsTrue (are_accepted replies)

-- So whatever text answers the script of a number says that it is accepted.
abbrev pub EveryAnswerIsAccepted : Type 0
EveryAnswerIsAccepted = (n : ℕ) (text : List ℕ) (accepted : Bool) → Answers (script_of n) text accepted → IsTrue accepted
