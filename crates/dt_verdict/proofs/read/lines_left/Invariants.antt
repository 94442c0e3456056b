use Rattle.std.proofs.Common.{◌≡◌, ◌+◌, length}
use Rattle.dt_verdict.specs.Cut.{lines_from}
use Rattle.dt_verdict.proofs.read.lines_left.Given as goal

abbrev pub invariant-lines : goal.invariant-lines
invariant-lines l = l.lines + length (lines_from l.text l.next) ≡ length (lines_from l.text l.fn.at)

abbrev pub decreases-lines : goal.decreases-lines
decreases-lines l = length (lines_from l.text l.next)
