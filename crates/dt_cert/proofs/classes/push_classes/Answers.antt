use Rattle.std.proofs.Common.{[], ◌++◌, cond, ap, ◌∙◌, arith}
use Rattle.std.specs.List.{filter, flat_map}
use Rattle.std.proofs.lemmas.List.{take_all}
use Rattle.dt_cert.specs.Certificate.{ByClasses}
use Rattle.dt_cert.specs.Classes.{is_first}
use Rattle.dt_cert.specs.Text.{text_of_line, value_line}
use Rattle.dt_cert.proofs.Joins.{lines_mapped, lines_filtered}
use Rattle.dt_cert.proofs.classes.push_classes.Goals as goal

pub returns : goal.returns
returns c =
    c.lows.invariant
    ∙ ap (λ t. c.args.out.now.items ++ t)
    (ap (flat_map (λ a. cond (is_first c.args.classes.now a) (text_of_line (value_line ByClasses a)) [])) (take_all c.lows.low-index c.args.lows.now (omega (arith, c.lows-test.false)))
    ∙ (lines_filtered (λ a. text_of_line (value_line ByClasses a)) (is_first c.args.classes.now) c.args.lows.now ∙ lines_mapped text_of_line (value_line ByClasses) (filter (is_first c.args.classes.now) c.args.lows.now)))
