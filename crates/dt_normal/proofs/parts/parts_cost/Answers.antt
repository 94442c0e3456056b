use Rattle.std.proofs.Common.{◌≤◌, arith}
use Rattle.dt_normal.proofs.Parting.{no_parts_cost, parts_read, parts_near}
use Rattle.dt_normal.proofs.parts.parts_cost.Goals as goal

pub returns-then-at-eq0-clause-value : goal.returns-then-at-eq0-clause-value
returns-then-at-eq0-clause-value c = no_parts_cost c.args.w.now c.args.classes.now c.args.at.start c.args.at.len c.if-at-eq0.true

pub returns-clause-value : goal.returns-clause-value
returns-clause-value c =
    parts_read c.args.w.now c.args.classes.now c.args.at.start c.args.at.len c.index.result.now c.row_at.result.now c.row_at.ensures (omega (arith, c.if-at-eq0.false)) c.requires.inside c.index.ensures

pub returns-clause-near : goal.returns-clause-near
returns-clause-near c =
    let some : 1 ≤ c.args.at.len = omega (arith, c.if-at-eq0.false) in
    parts_near c.args.w.now c.args.classes.now c.args.at.start c.args.at.len c.index.result.now c.requires.light c.requires.few some c.requires.inside
    (parts_read c.args.w.now c.args.classes.now c.args.at.start c.args.at.len c.index.result.now c.row_at.result.now c.row_at.ensures some c.requires.inside c.index.ensures)
