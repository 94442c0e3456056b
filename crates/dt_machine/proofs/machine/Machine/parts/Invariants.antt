use Rattle.std.proofs.Common.{◌≡◌, take, Some}
use Rattle.dt_machine.specs.Made.{parts_in}
use Rattle.dt_machine.proofs.machine.Machine.parts.Given as goal

-- the parts up to here, with their old types
abbrev pub invariant-loop-part : goal.invariant-loop-part
invariant-loop-part l = parts_in l.self (take l.part-index l.named) ≡ Some l.parts.items
