use mir.Syntax.{w128}
use mir.Val.{to_z, of_z}
use Rattle.std.proofs.Common.{pos, rules}
use Rattle.dt_offsets.proofs.Products.{factor_back}
use Rattle.dt_layout.proofs.Steps.{row_turns}
use Rattle.dt_layout.proofs.levels.row.Goals as goal

pub returns-clause-offsets : goal.returns-clause-offsets
returns-clause-offsets c =
    row_turns (record { first = to_z w128 (of_z w128 c.args.first); count = c.from-count.result; block = c.max.result; jump = pos 0; step = to_z w128 (of_z w128 c.args.step) }) c.args.first c.args.step c.args.copies (factor_back c.args.first c.requires.first) (factor_back c.args.step c.requires.step) (search rules) (search rules)
