use Rattle.dt_alike.proofs.Reaching.{Passed}
use Rattle.dt_alike.proofs.reach.step_back.Given as goal

abbrev pub invariant-others : goal.invariant-others
invariant-others l = Passed l.entries l.one l.other l.initial.reaches l.reaches
