use Rattle.std.proofs.Common.{take}
use Rattle.dt_verdict.proofs.Raising.{AreRaised}
use Rattle.dt_verdict.proofs.classed.greatest.Given as goal

abbrev pub invariant-values : goal.invariant-values
invariant-values l = AreRaised l.classes (take l.a-index l.values) l.greatest.items
