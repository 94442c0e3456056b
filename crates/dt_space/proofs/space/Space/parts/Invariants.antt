use Rattle.std.proofs.Common.{◌≡◌, take, Some}
use Rattle.dt_space.specs.Structures.{parts_at}
use Rattle.dt_space.proofs.space.Space.parts.Given as goal

-- the parts up to here, over their datatypes
abbrev pub invariant-parts : goal.invariant-parts
invariant-parts l = parts_at l.self (take l.part-index l.parts) ≡ Some l.found.items
