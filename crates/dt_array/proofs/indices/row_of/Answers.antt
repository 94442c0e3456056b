use Rattle.dt_array.proofs.Axes.{row_axis, row_inside}
use Rattle.dt_array.proofs.indices.row_of.Goals as goal

pub returns-clause-axis : goal.returns-clause-axis
returns-clause-axis c = row_axis c.args.full c.args.first c.args.count c.requires.some c.requires.within

pub returns-clause-inside : goal.returns-clause-inside
returns-clause-inside c = row_inside c.args.full c.args.first c.args.count c.requires.some c.requires.within c.requires.short
