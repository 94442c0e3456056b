use mir.Syntax.{w64}
use mir.Val.{to_z, of_z}
use Rattle.std.proofs.Common.{sym, ap, ◌∙◌, arith}
use Rattle.dt_tree.proofs.Limits.{step_fits, step_back}
use Rattle.dt_spelling.proofs.Numbers.{step_tested, step_untested, no_step}
use Rattle.dt_spelling.proofs.number.step_in.Goals as goal

pub returns-in_err-step : goal.returns-in_err-step
returns-in_err-step c =
    c.from_residual.ensures ∙ sym (no_step c.args.word.now (λ x fits is. c.in_err-step.ensures x (omega (arith, step_fits x fits)) is))

pub returns-then-spells_step : goal.returns-then-spells_step
returns-then-spells_step c =
    sym (step_tested c.args.word.now (to_z w64 (of_z w64 c.in_ok-step.step)) (sym c.spells_step.ensures ∙ c.if-spells_step.true))

pub returns-else-spells_step : goal.returns-else-spells_step
returns-else-spells_step c =
    sym (step_untested c.args.word.now (to_z w64 (of_z w64 c.in_ok-step.step))
    (λ z fits is. sym (step_back z (step_fits z fits)) ∙ ap (λ y. to_z w64 (of_z w64 y)) (c.in_ok-step.ensures z (omega (arith, step_fits z fits)) is))
    (sym c.spells_step.ensures ∙ c.if-spells_step.false))
