use Rattle.dt_check.specs.Sums.{AreLeastSums}
use Rattle.dt_check.proofs.sums.least_sums.Given as goal

abbrev pub invariant-firsts : goal.invariant-firsts
invariant-firsts l = AreLeastSums l.entries l.len l.runs l.cuts l.k l.least.items
