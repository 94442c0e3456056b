use Rattle.std.proofs.Common.{ℕ, ◌≤◌, ◌++◌, List}
use Rattle.dt_reduce.specs.Merges.{AreHalves}
use Rattle.dt_reduce.proofs.merges.halves.Given as goal

-- merges of what is left, by halves, are all that is missing
abbrev pub invariant-rounds : goal.invariant-rounds
invariant-rounds l = record {
  missing : (rest : List ℕ) → AreHalves l.left rest → AreHalves l.n (l.merges.items ++ rest);
  some : 1 ≤ l.left;
}

abbrev pub decreases-rounds : goal.decreases-rounds
decreases-rounds l = l.left
