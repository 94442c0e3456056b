use Rattle.std.proofs.Common.{sym, ◌∙◌}
use Rattle.dt_call.proofs.NumberLemmas.{no_number, told_number, other_number}
use Rattle.dt_call.proofs.words.number_of.Goals as goal

pub returns-in_err-number : goal.returns-in_err-number
returns-in_err-number c =
    c.from_residual.ensures ∙ sym (no_number c.args.word.now c.parse.result c.parse.ensures.value.0 (sym c.ok.ensures.value ∙ c.in_err-number.was))

pub returns-then-spells : goal.returns-then-spells
returns-then-spells c =
    sym (told_number c.args.word.now c.parse.result c.in_ok-number.number c.parse.ensures.value.0 (sym c.ok.ensures.value ∙ c.in_ok-number.was)
    (sym c.spells.ensures ∙ c.if-spells.true))

pub returns-else-spells : goal.returns-else-spells
returns-else-spells c =
    sym (other_number c.args.word.now c.parse.result c.in_ok-number.number c.parse.ensures.value.0 (sym c.ok.ensures.value ∙ c.in_ok-number.was)
    (sym c.spells.ensures ∙ c.if-spells.false))
