use Rattle.std.proofs.Common.{take}
use Rattle.dt_type.specs.Datatype.{typemap_of}
use Rattle.dt_machine.specs.Operation.{Gathers}
use Rattle.dt_machine.proofs.machine.Machine.gathered.Given as goal

-- the ranks of the buffers up to here
abbrev pub invariant-ranks : goal.invariant-ranks
invariant-ranks l = Gathers l.self (typemap_of l.ty) l.copies l.origin (take l.name-index l.names) l.ranks
