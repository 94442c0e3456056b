use Rattle.std.proofs.Common.{◌≡◌, ◌+◌, ◌-◌, length}
use Rattle.dt_cursor.specs.Onward.{AreParts}
use Rattle.dt_layout.specs.Body.{Parts, sizes}
use Rattle.dt_cursor.proofs.totals.parts_total.Given as goal

-- the bytes of the parts up to here
abbrev pub invariant-parts : goal.invariant-parts
invariant-parts l = (parts : Parts) → AreParts l.program l.fn.from parts → (rest : Parts) × AreParts l.program l.place rest × (sizes l.fn.rep parts ≡ l.bytes + sizes l.fn.rep rest)

abbrev pub decreases-parts : goal.decreases-parts
decreases-parts l = length l.program - l.place
