use mir.Syntax.{w64}
use mir.Val.{to_z, of_z}
use Rattle.std.proofs.Common.{refl, arith}
use Rattle.std.proofs.lemmas.Int.{ints, to_z-of_z}
use Rattle.dt_type.specs.declared.fault.CtorFault.TheVariants.{BadArgument}
use Rattle.dt_form.specs.declared.form.FormOf.TheVariants.{Resized}
use Rattle.dt_type.proofs.Answers.{again, never}
use Rattle.dt_ctor.proofs.OneCopy.{with_marks}
use Rattle.dt_ctor.proofs.once.resized.Goals as goal

pub make-requires-clause-places : goal.make-requires-clause-places
make-requires-clause-places c =
    let h = c.in-Ok.ensures in
    with_marks c.in_ok-shape.shape c.args.old.now c.in_ok-share.field-0 _ _ _ c.in_ok-shape.ensures c.in_ok-share.ensures (omega (arith, ints))

pub returns-clause-answer : goal.returns-clause-answer
returns-clause-answer c =
    let old = c.in_ok-share.ensures in
    let lb = to_z-of_z w64 c.args.lb c.ranges.lb in
    let extent = to_z-of_z w64 c.args.extent c.ranges.extent in
    again _ _ _ c.make.ensures.answer (cc)

pub returns-clause-arguments : goal.returns-clause-arguments
returns-clause-arguments c =
    never (Resized (to_z w64 (of_z w64 c.args.lb)) (to_z w64 (of_z w64 c.args.extent)) c.in_ok-share.field-0) _ BadArgument c.make.ensures.answer (λ h. h refl)
