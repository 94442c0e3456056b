use Rattle.dt_array.proofs.Axes.{rounds_axis, rounds_inside}
use Rattle.std.proofs.Common.{arith}
use Rattle.dt_array.proofs.indices.rounds_of.Goals as goal

pub returns-clause-axis : goal.returns-clause-axis
returns-clause-axis c =
    rounds_axis c.args.full c.args.block c.args.procs c.args.r _ _ _ c.requires.least c.requires.r c.held_of-count.ensures (c.beyond.ensures.more, c.beyond.ensures.no_more) (c.beyond-2.ensures.more, c.beyond-2.ensures.no_more)

pub returns-clause-inside : goal.returns-clause-inside
returns-clause-inside c =
    rounds_inside c.args.full c.args.block c.args.procs c.args.r _ _ _ c.requires.least c.requires.r c.held_of-count.ensures (c.beyond.ensures.more, c.beyond.ensures.no_more) (c.beyond-2.ensures.more, c.beyond-2.ensures.no_more) c.requires.some c.requires.short (omega arith)
