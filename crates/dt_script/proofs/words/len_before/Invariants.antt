use Rattle.std.proofs.Common.{◌≡◌, ℕ, ◌<◌, get_or, false}
use Rattle.dt_script.proofs.words.len_before.Given as goal

-- no byte before here ends a piece
abbrev pub invariant-loop-i : goal.invariant-loop-i
invariant-loop-i g l = (k : ℕ) → k < l.i → g.E.Ends.ends (get_or l.bytes k 0) ≡ false
