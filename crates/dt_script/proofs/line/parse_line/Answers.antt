use Rattle.std.proofs.Common.{sym, ◌∙◌}
use Rattle.dt_script.specs.Words.{words_of}
use Rattle.dt_script.proofs.LineLemmas.{fault_line}
use Rattle.dt_script.proofs.CommandLemmas.{command_sound, has_ranks}
use Rattle.dt_script.proofs.line.parse_line.Goals as goal

pub returns-in-Ok-clause-meaning : goal.returns-in-Ok-clause-meaning
returns-in-Ok-clause-meaning c = (
  sym c.is_passed_over.ensures ∙ c.if-is_passed_over.false,
  sym c.is_text.ensures ∙ c.if-not-is_text.false,
  command_sound (words_of c.args.line.now) c.in-Ok.command c.in-Ok.ensures,
)

pub returns-in-Ok-clause-ranks : goal.returns-in-Ok-clause-ranks
returns-in-Ok-clause-ranks c =
    let words = words_of c.args.line.now in
    has_ranks words c.in-Ok.command (command_sound words c.in-Ok.command c.in-Ok.ensures)

pub returns-in-Err-clause-meaning : goal.returns-in-Err-clause-meaning
returns-in-Err-clause-meaning c =
    fault_line c.args.line.now c.in-Err.fault (sym c.is_passed_over.ensures ∙ c.if-is_passed_over.false)
    (sym c.is_text.ensures ∙ c.if-not-is_text.false) c.in-Err.ensures
