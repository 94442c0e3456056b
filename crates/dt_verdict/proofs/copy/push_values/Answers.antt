use Rattle.std.proofs.Common.{◌++◌, ap, ◌∙◌, arith}
use Rattle.std.specs.List.{flat_map}
use Rattle.std.proofs.lemmas.List.{take_all}
use Rattle.dt_cert.specs.Certificate.{ByClasses}
use Rattle.dt_cert.specs.Text.{text_of_line, value_line}
use Rattle.dt_cert.proofs.Joins.{lines_mapped}
use Rattle.dt_verdict.proofs.copy.push_values.Goals as goal

pub returns : goal.returns
returns c =
    c.values.invariant
    ∙ ap (λ t. c.args.out.now.items ++ t)
    (ap (flat_map (λ a. text_of_line (value_line ByClasses a))) (take_all c.values.a-index c.args.values.now (omega (arith, c.values-test.false))) ∙ lines_mapped text_of_line (value_line ByClasses) c.args.values.now)
