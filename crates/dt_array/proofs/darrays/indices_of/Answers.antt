use Rattle.std.proofs.Common.{◌≡◌, ◌∙◌, nat_abs, rules}
use Rattle.dt_array.proofs.Axes.{whole_axis}
use Rattle.dt_array.proofs.darrays.indices_of.Goals as goal

pub returns-in-Whole-clause-axis : goal.returns-in-Whole-clause-axis
returns-in-Whole-clause-axis c =
    let full : c.from-full.result ≡ nat_abs c.args.dim.gsize = search rules in
    c.row_of.ensures.axis ∙ whole_axis c.args.dim c.args.r _ c.in-Whole.is full
