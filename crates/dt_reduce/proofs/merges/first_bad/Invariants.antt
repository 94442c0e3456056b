use Rattle.std.proofs.Common.{ℕ, ◌<◌}
use Rattle.dt_reduce.specs.Merges.{IsGood}
use Rattle.dt_reduce.proofs.merges.first_bad.Given as goal

-- the members up to here are good
abbrev pub invariant-members : goal.invariant-members
invariant-members l = (i : ℕ) → i < l.i → IsGood l.rows l.merges i
