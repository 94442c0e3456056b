use Rattle.dt_normal.proofs.Parting.{BestBelow}
use Rattle.dt_normal.proofs.parts.first_part.Given as goal

abbrev pub invariant-firsts : goal.invariant-firsts
invariant-firsts l = BestBelow l.w l.classes l.at.start l.at.len l.k l.first l.least
