use Rattle.std.proofs.Common.{arith}
use Rattle.dt_normal.proofs.Parting.{first_best, best_same, best_now, best_first}
use Rattle.dt_normal.proofs.parts.first_part.Goals as goal
use Rattle.dt_normal.proofs.parts.first_part.Goals.{then-cost-least, else-cost-least}

pub firsts-init : goal.firsts-init
firsts-init c = first_best c.args.w.now c.args.classes.now c.args.at.start c.args.at.len c.price-least.result c.price-least.ensures

pub firsts-preserved : goal.firsts-preserved
firsts-preserved c =
    elim c.if-cost-least.branch [
      | then-cost-least w ↦
          rw (w.first-is, w.least-is)
          (best_now c.args.w.now c.args.classes.now c.args.at.start c.args.at.len c.firsts.k c.firsts.first c.firsts.least c.price-cost.result (omega (arith, c.firsts.auto.k)) c.firsts.invariant
          c.price-cost.ensures w.if-cost-least.true)
      | else-cost-least w ↦
          rw (w.first-is, w.least-is)
          (best_same c.args.w.now c.args.classes.now c.args.at.start c.args.at.len c.firsts.k c.firsts.first c.firsts.least c.price-cost.result c.firsts.invariant c.price-cost.ensures
          (omega (arith, w.if-cost-least.false)))
    ]

pub returns : goal.returns
returns c =
    best_first c.args.w.now c.args.classes.now c.args.at.start c.args.at.len c.args.most c.firsts.k c.firsts.first c.firsts.least (omega (arith, c.requires.some, c.requires.within)) c.requires.inside
    (omega (arith, c.firsts-test.false, c.firsts.auto.k-end, c.requires.some)) c.requires.within c.firsts.invariant
