use Rattle.std.proofs.Common.{◌-◌, length}
use Rattle.dt_cursor.specs.Onward.{AreParts, HaveNoElements}
use Rattle.dt_layout.specs.Body.{Parts}
use Rattle.dt_cursor.proofs.onward.some_part.Given as goal

-- the parts up to here have no elements
abbrev pub invariant-parts : goal.invariant-parts
invariant-parts l = (parts : Parts) → AreParts l.program l.fn.from parts → (rest : Parts) × AreParts l.program l.place rest × HaveNoElements l.fn.from parts l.place rest

abbrev pub decreases-parts : goal.decreases-parts
decreases-parts l = length l.program - l.place
