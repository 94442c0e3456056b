use Rattle.std.proofs.Common.{◌≡◌, ℕ, ◌<◌, ◌==◌, get_or, false}
use Rattle.dt_spelling.specs.Spelling.{space}
use Rattle.dt_spelling.proofs.items.len_before_space.Given as goal

-- no byte before here is a space
abbrev pub invariant-loop-i : goal.invariant-loop-i
invariant-loop-i l = (k : ℕ) → k < l.i → (get_or l.bytes k 0 == space) ≡ false
