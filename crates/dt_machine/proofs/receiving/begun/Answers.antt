use Rattle.std.proofs.Common.{subst}
use Rattle.std.proofs.lemmas.Int.{to_z-of_z}
use Rattle.std.specs.Int.{w64}
use Rattle.dt_map.specs.Elements.{Overlaps}
use Rattle.dt_machine.proofs.receiving.begun.Goals as goal

pub returns-in-Ok : goal.returns-in-Ok
returns-in-Ok c =
    let origin = to_z-of_z w64 c.args.origin c.ranges.origin in
    (rw origin at c.in-Ok.ensures.session, subst (λ es. ¬ Overlaps es) (rw origin at c.in-Ok.ensures.elements) c.in-Ok.ensures.apart)
