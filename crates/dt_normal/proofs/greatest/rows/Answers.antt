use Rattle.std.proofs.Common.{◌-◌, [], ◌∷◌, length-append, arith}
use Rattle.dt_normal.proofs.Rowing.{one_row}
use Rattle.dt_normal.proofs.greatest.rows.Goals as goal

pub starts-preserved : goal.starts-preserved
starts-preserved c =
    let items = c.in_ok-push.ensures.items in
    rw items
    (let grown = one_row c.args.w.now c.args.classes.now (c.len-in-starts.result - 1 - c.starts.k) c.starts.rows.items c.in_ok-row.row c.starts.invariant.rows
    (omega (arith, c.starts-test.true, c.len-in-starts.ensures.value, c.len-k-end.ensures.value, c.starts.invariant.each)) c.in_ok-row.ensures in
    record {
      each = omega (arith, length-append c.starts.rows.items (c.in_ok-row.row ∷ []), c.starts.invariant.each);
      rows = grown;
    })
