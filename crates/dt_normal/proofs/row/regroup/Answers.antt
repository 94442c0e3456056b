use Rattle.std.proofs.Common.{◌+◌, ◌-◌, arith}
use Rattle.dt_normal.specs.Known.{IsLowered}
use Rattle.dt_normal.proofs.Cells.{block_few}
use Rattle.dt_normal.proofs.Rowing.{sums_fit, groups_lowered}
use Rattle.dt_normal.proofs.row.regroup.Goals as goal

pub overflow_add-part : goal.overflow_add-part
overflow_add-part c =
    omega (arith, c.part.ensures.light, c.requires.few, c.requires.inside, block_few c.args.w.now c.args.classes.now c.args.at.start c.args.at.len c.args.block c.requires.light c.requires.inside c.requires.some c.requires.block)

pub lower-requires-clause-fits : goal.lower-requires-clause-fits
lower-requires-clause-fits c =
    rw c.deref.ensures.value
    (λ k lt. omega (arith, c.part.ensures.value, sums_fit c.args.w.now c.args.classes.now c.args.at.start c.args.at.len c.args.block c.row_at-next.result.now c.requires.light c.requires.few c.requires.some (omega (arith, c.if-end-len.true, c.len.ensures.value)) c.requires.block c.row_at-next.ensures k lt))

pub returns-then-end-len : goal.returns-then-end-len
returns-then-end-len c =
    let lowered : IsLowered (c.args.at.len - 1) (c.args.w.now.part + c.args.block) c.row_at-next.result.now.parts.items c.args.groups.now c.lower.new.costs = rw (c.deref.ensures.value, c.part.ensures.value) at c.lower.ensures in
    groups_lowered c.args.w.now c.args.classes.now c.args.at.start c.args.at.len c.args.block c.row_at-next.result.now c.args.groups.now c.lower.new.costs c.requires.some
    (omega (arith, c.if-end-len.true, c.len.ensures.value)) c.requires.block c.row_at-next.ensures c.requires.groups lowered
