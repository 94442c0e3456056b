use Rattle.std.proofs.Common.{ap, ◌∷◌, ◌∙◌}
use Rattle.dt_script.proofs.InputLemmas.{cut_at, lines_after, no_lines_after}
use Rattle.dt_script.proofs.lines.raw_line.Goals as goal

pub returns-in-Some-clause-lines : goal.returns-in-Some-clause-lines
returns-in-Some-clause-lines c =
    cut_at c.args.bytes.now c.split_at.result.0.now c.split_at.result.1.now c.len_before.result c.requires c.len_before.ensures.exact c.split_at.ensures.front c.split_at.ensures.back
    ∙ ap (λ r. c.split_at.result.0.now ∷ lines_after r) c.in-Some.ensures.cases.0

pub returns-in-None-clause-lines : goal.returns-in-None-clause-lines
returns-in-None-clause-lines c =
    cut_at c.args.bytes.now c.split_at.result.0.now c.split_at.result.1.now c.len_before.result c.requires c.len_before.ensures.exact c.split_at.ensures.front c.split_at.ensures.back
    ∙ ap (λ ls. c.split_at.result.0.now ∷ ls) (no_lines_after c.split_at.result.1.now c.in-None.ensures.cases)
