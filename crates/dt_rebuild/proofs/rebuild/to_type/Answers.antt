use Rattle.std.proofs.Common.{rules, Ok, refl}
use Rattle.std.proofs.lemmas.Int.{to_z-of_z}
use mir.Syntax.{w64}
use Rattle.dt_rebuild.proofs.Around.{with_marks, without_marks, refused_bare, lent, marks_fit, disp_back, extent_back}
use Rattle.dt_rebuild.proofs.Asking.{never_bad}
use Rattle.dt_rebuild.proofs.Built.{answer_places}
use Rattle.dt_rebuild.specs.Built.{built}
use Rattle.dt_rebuild.proofs.rebuild.to_type.Goals as goal

pub returns-in_err-bare-clause-answer : goal.returns-in_err-bare-clause-answer
returns-in_err-bare-clause-answer c =
    refused_bare c.args.base _ (lent c.args.tree) c.args.marks c.in_err-bare.field-0.0 c.from_residual.result (to_z-of_z w64 c.args.base c.ranges.base) c.in_err-bare.ensures (search rules)

pub returns-in_err-bare-clause-arguments : goal.returns-in_err-bare-clause-arguments
returns-in_err-bare-clause-arguments c =
    never_bad c.args.base (lent c.args.tree) c.args.marks (built c.args.base (lent c.args.tree) c.args.marks) c.from_residual.result (returns-in_err-bare-clause-answer c)

pub returns-in_err-bare-clause-typemap : goal.returns-in_err-bare-clause-typemap
returns-in_err-bare-clause-typemap c = answer_places c.args.base (lent c.args.tree) c.args.marks c.from_residual.result (returns-in_err-bare-clause-answer c)

pub returns-in_default-clause-typemap : goal.returns-in_default-clause-typemap
returns-in_default-clause-typemap c =
    answer_places c.args.base (lent c.args.tree) c.args.marks (Ok c.in_ok-bare.bare)
    (without_marks c.args.base _ (lent c.args.tree) c.args.marks c.in_ok-bare.bare (Ok c.in_ok-bare.bare) (search rules) (to_z-of_z w64 c.args.base c.ranges.base) c.in_ok-bare.ensures refl)

pub returns-clause-answer : goal.returns-clause-answer
returns-clause-answer c =
    let m = c.in-Some.marks in
    let fit = marks_fit c.args.marks m c.requires c.in-Some.is in
    with_marks c.args.base _ _ _ (lent c.args.tree) c.args.marks m c.in_ok-bare.bare c.resized.result c.in-Some.is (to_z-of_z w64 c.args.base c.ranges.base) c.in_ok-bare.ensures
    (disp_back m.lb fit.0) (extent_back m.lb m.ub fit.0 fit.1) c.resized.ensures.answer

pub returns-clause-typemap : goal.returns-clause-typemap
returns-clause-typemap c = answer_places c.args.base (lent c.args.tree) c.args.marks c.resized.result (returns-clause-answer c)
