use Rattle.std.proofs.Common.{arith, rules}
use Rattle.dt_check.proofs.Rowed.{no_zeros, more_zeros}
use Rattle.dt_check.proofs.values.zeros.Goals as goal

pub lengths-init : goal.lengths-init
lengths-init c = rw c.in_ok-rows.ensures.items (no_zeros c.args.len)

pub lengths-preserved : goal.lengths-preserved
lengths-preserved c =
    rw c.in_ok-push.ensures.items
    (more_zeros c.args.len c.lengths.k c.lengths.rows.items c.in_ok-row.row c.lengths.invariant c.lengths-test.true (search rules))

pub returns-clause-rows : goal.returns-clause-rows
returns-clause-rows c = c.lengths.invariant.shape

pub returns-clause-each : goal.returns-clause-each
returns-clause-each c = omega (arith, c.lengths.invariant.each, c.lengths-test.false, c.lengths.auto.k-end)

pub returns-clause-values : goal.returns-clause-values
returns-clause-values c = c.lengths.invariant.zeros
