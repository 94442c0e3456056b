use Rattle.std.proofs.lemmas.Int.{to_z-of_z}
use Rattle.std.specs.Int.{w64}
use Rattle.dt_machine.proofs.combining.fold_by.Goals as goal

pub returns-clause-ok : goal.returns-clause-ok
returns-clause-ok g c = λ held here. simp (to_z-of_z w64 c.args.origin c.ranges.origin) at (c.reduce_all.ensures.ok held here)
