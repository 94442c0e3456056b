use Rattle.std.proofs.Common.{◌+◌, ◌<◌, ap, ◌∙◌, sym, arith, length, ℕ}
use Rattle.std.specs.Global.{Vec}
use Rattle.dt_check.specs.Spread.{IsSpread}
use Rattle.dt_check.proofs.Rowed.{row_read}
use Rattle.dt_check.proofs.Spreading.{one_spreads}
use Rattle.dt_check.proofs.values.spread.Goals as goal

pub spread_row-requires-clause-row : goal.spread_row-requires-clause-row
spread_row-requires-clause-row c =
    let inside = c.lengths-test.true in
    omega (
      arith,
      inside,
      c.len-k-end.ensures.value,
      c.deref.ensures.len,
      c.index-firsts-k.result.ok.0,
      c.requires.rows.row c.lengths.k (omega (arith, inside, c.len-k-end.ensures.value, c.requires.each)),
      ap length (row_read c.args.firsts.now c.lengths.k c.index-firsts-k.result (omega (arith, inside, c.len-k-end.ensures.value, c.requires.each)) ∙ ap (λ (v : Vec ℕ). v.items) (sym c.index-firsts-k.is)),
    )

pub lengths-preserved : goal.lengths-preserved
lengths-preserved c =
    let m = c.args.classes.now in
    let old = c.index-firsts-k.result in
    let less : c.lengths.k < length m = omega (arith, c.lengths-test.true, c.len-k-end.ensures.value) in
    let read = row_read c.args.firsts.now c.lengths.k old (omega (arith, less, c.requires.each)) ∙ ap (λ (v : Vec ℕ). v.items) (sym c.index-firsts-k.is) in
    let here : IsSpread m (c.lengths.k + 1) (length old.items) old.items c.in_ok-row.row.items = rw c.deref.ensures.value at c.in_ok-row.ensures in
    one_spreads m c.lengths.k (length old.items) c.args.firsts.now c.lengths.rows.items c.push.new.self.items old c.in_ok-row.row c.lengths.invariant less c.requires.rows c.requires.each c.index-firsts-k.is
    (omega (arith, ap length read, c.requires.rows.row c.lengths.k (omega (arith, less, c.requires.each)))) here c.in_ok-push.ensures.items
