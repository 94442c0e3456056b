use Rattle.std.proofs.Common.{length}
use Rattle.dt_words.specs.Script.{Progress}
use Rattle.dt_words.proofs.script.run_all.Given as goal

-- the lines up to here were run
abbrev pub invariant-lines : goal.invariant-lines
invariant-lines l = Progress l.input l.rest l.machine l.refusal.items l.accepted

abbrev pub decreases-lines : goal.decreases-lines
decreases-lines l = length l.rest
