use Rattle.std.proofs.Common.{sym, ◌∙◌, arith}
use Rattle.dt_verdict.proofs.Naturals.{natural_tested, natural_untested, no_natural}
use Rattle.dt_verdict.proofs.number.natural_in.Goals as goal

pub returns-in_err-number : goal.returns-in_err-number
returns-in_err-number c =
    c.from_residual.ensures ∙ sym (no_natural c.args.most c.args.word.now (λ n high is. c.in_err-number.ensures n (omega arith) is))

pub returns-then-spells : goal.returns-then-spells
returns-then-spells c =
    sym (natural_tested c.args.most c.args.word.now c.in_ok-number.number (omega arith) (sym c.spells.ensures ∙ c.if-spells.true))

pub returns-else-spells : goal.returns-else-spells
returns-else-spells c =
    sym (natural_untested c.args.most c.args.word.now c.in_ok-number.number (omega arith) c.in_ok-number.ensures (sym c.spells.ensures ∙ c.if-spells.false))
