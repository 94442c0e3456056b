use Rattle.std.proofs.Common.{sym, ◌∙◌, arith}
use Rattle.dt_spelling.proofs.Numbers.{number_tested, number_untested, no_number}
use Rattle.dt_spelling.proofs.number.number_in.Goals as goal

pub returns-in_err-number : goal.returns-in_err-number
returns-in_err-number c =
    c.from_residual.ensures ∙ sym (no_number c.args.most c.args.word.now (λ n low high is. c.in_err-number.ensures n (omega arith) is))

pub returns-then-spells_number : goal.returns-then-spells_number
returns-then-spells_number c =
    sym (number_tested c.args.most c.args.word.now c.in_ok-number.number (omega arith) (sym c.spells_number.ensures ∙ c.if-spells_number.true))

pub returns-else-spells_number : goal.returns-else-spells_number
returns-else-spells_number c =
    sym (number_untested c.args.most c.args.word.now c.in_ok-number.number (omega arith) c.in_ok-number.ensures (sym c.spells_number.ensures ∙ c.if-spells_number.false))
