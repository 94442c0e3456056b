use Rattle.std.proofs.Common.{pos, arith, refl, subst, sym}
use Rattle.dt_layout.specs.Body.{meaning}
use Rattle.dt_layout.specs.Code.{Counted}
use Rattle.dt_layout.specs.Program.{AreProgram}
use Rattle.dt_tests_sessions.proofs.cursors.the_most_frames.Goals as goal

pub find-requires : goal.find-requires
find-requires g c =
    let lawful = subst (λ (k : Counted). AreProgram k.code) (sym c.new.ensures) (subst AreProgram c.program.view_is c.program.invariant) in
    (meaning lawful.0 (pos 0), (lawful.0, lawful.1, refl), omega arith)
