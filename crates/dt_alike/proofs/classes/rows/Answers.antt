use Rattle.dt_alike.proofs.Knowing.{next_reaches, row_back}
use Rattle.dt_alike.proofs.classes.rows.Goals as goal

pub step_back-requires-clause-next : goal.step_back-requires-clause-next
step_back-requires-clause-next c =
    next_reaches c.args.entries.now c.starts.k c.starts.reaches.items c.deref_mut.result.now c.starts.rows.items c.starts.invariant c.starts-test.true c.deref_mut.ensures.value

pub starts-preserved : goal.starts-preserved
starts-preserved c =
    rw c.in_ok-push.ensures.items
    (row_back c.args.entries.now c.starts.k c.starts.reaches.len c.starts.reaches.items c.step_back.new.reaches c.starts.rows.items c.in_ok-row.row c.starts.invariant
    c.starts-test.true c.starts.reaches.ok.0 c.step_back.ensures c.in_ok-row.ensures)
