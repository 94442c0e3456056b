use Rattle.std.proofs.Common.{◌≡◌, ℕ, ◌<◌, ◌==◌, get_or, false}
use Rattle.dt_verdict.proofs.cut.len_before.Given as goal

-- no byte before here is the one that is looked for
abbrev pub invariant-bytes : goal.invariant-bytes
invariant-bytes l = (k : ℕ) → k < l.i → (get_or l.bytes k 0 == l.stop) ≡ false
