-- A line that means a command is one step of it.
use Rattle.std.proofs.Common.{ℕ, Bool, List, Result, Ok, Err}
use Rattle.std.specs.Prelude.{IfOk}
use Rattle.dt_kinds.specs.declared.memory.NoMemory.{NoMemory}
use Rattle.dt_reply.specs.Reply.{Responds}
use Rattle.dt_script.specs.declared.command.Command.{Command}
use Rattle.dt_script.specs.Line.{IsLine, Does}
use Rattle.dt_machine.specs.State.{State}
use Rattle.dt_machine.specs.Step.{Step, Obeys}

pub obeyed_line : (s t : State) (line old new : List ℕ) (command : Command) (result : Result Bool NoMemory) → IsLine line (Does command)
    → IfOk result (λ accepted. Responds (λ reply. Obeys command s reply t) accepted old new)
    → IfOk result (λ accepted. Responds (λ reply. Step s line reply t) accepted old new)
obeyed_line s t line old new command (Ok accepted) means (reply, obeys, gives) = (reply, (Does command, means, obeys), gives)
obeyed_line s t line old new command (Err fault) means h = h
