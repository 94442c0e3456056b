use Rattle.std.proofs.Common.{◌++◌, ap, ◌∙◌, arith}
use Rattle.std.specs.List.{flat_map}
use Rattle.std.proofs.lemmas.List.{take_all}
use Rattle.dt_cert.specs.Text.{text_of_line, entry_line}
use Rattle.dt_cert.proofs.Joins.{lines_mapped}
use Rattle.dt_cert.proofs.lines.push_entries.Goals as goal

pub returns : goal.returns
returns c =
    c.entries.invariant
    ∙ ap (λ t. c.args.out.now.items ++ t)
    (ap (flat_map (λ e. text_of_line (entry_line e))) (take_all c.entries.entry-index c.args.entries.now (omega (arith, c.entries-test.false))) ∙ lines_mapped text_of_line entry_line c.args.entries.now)
