use Rattle.std.proofs.Common.{◌≡◌, ◌+◌, ◌-◌, ◌≤◌, sym, arith, length, subst}
use Rattle.dt_check.specs.Levels.{IsKnownLevel}
use Rattle.dt_check.specs.Rows.{table_in}
use Rattle.dt_check.specs.Sums.{AreLeastSums}
use Rattle.dt_check.proofs.Bounding.{holds_within}
use Rattle.dt_check.proofs.Leveling.{at_of, one_known}
use Rattle.dt_check.proofs.Ones.{lows_few, runs_few, cuts_few}
use Rattle.dt_check.proofs.Rowed.{place_within, table_read}
use Rattle.dt_check.proofs.level.test_length.Goals as goal

pub least_sums-requires-clause-few_runs : goal.least_sums-requires-clause-few_runs
least_sums-requires-clause-few_runs c =
    rw c.deref.ensures.value (runs_few c.args.w.now c.args.classes.now (table_in c.args.values.now) (c.args.len - 1) c.args.sums.now c.requires.light c.requires.few c.requires.known)

pub least_sums-requires-clause-few_cuts : goal.least_sums-requires-clause-few_cuts
least_sums-requires-clause-few_cuts c =
    rw c.deref-2.ensures.value (cuts_few c.args.w.now c.args.classes.now (table_in c.args.values.now) (c.args.len - 1) c.args.sums.now c.requires.light c.requires.few c.requires.known)

pub bound_of-bound-requires-clause-few_lows : goal.bound_of-bound-requires-clause-few_lows
bound_of-bound-requires-clause-few_lows c = lows_few c.args.w.now c.args.classes.now (table_in c.args.values.now) (c.args.len - 1) c.args.sums.now c.requires.light c.requires.few c.requires.known

pub bound_of-bound-requires-clause-few_runs : goal.bound_of-bound-requires-clause-few_runs
bound_of-bound-requires-clause-few_runs c = runs_few c.args.w.now c.args.classes.now (table_in c.args.values.now) (c.args.len - 1) c.args.sums.now c.requires.light c.requires.few c.requires.known

pub index-value-requires : goal.index-value-requires
index-value-requires c =
    let within = place_within (length c.args.classes.now) c.args.values.now c.starts.start c.args.len c.index-values-len.result (record {
      shape = c.requires.rows;
      some = c.requires.some;
      known = omega (arith, c.requires.inside, c.requires.each);
      inside = omega (arith, c.starts-test.true, c.len.ensures.value, c.requires.inside);
      is = c.index-values-len.is;
    }) in
    omega (arith, within, c.index-values-len.result.ok.0)

pub returns-then-value-from : goal.returns-then-value-from
returns-then-value-from c =
    let inside : c.starts.start + c.args.len ≤ length c.args.classes.now = omega (arith, c.starts-test.true, c.len.ensures.value, c.requires.inside) in
    let sums : AreLeastSums (length c.args.classes.now) c.args.len c.args.sums.now.runs.items c.args.sums.now.cuts.items (c.args.len - 1) c.in_ok-parts.parts.items =
    rw (c.len-entries.ensures.value, c.deref.ensures.value, c.deref-2.ensures.value) at c.in_ok-parts.ensures in
    let at = at_of c.args.w.now c.args.classes.now (table_in c.args.values.now) c.starts.start c.args.len c.index-part.result.now c.args.sums.now c.bound_of-bound.result c.in_ok-parts.parts.items c.requires.light
    c.requires.few c.requires.some inside c.requires.known sums c.index-part.ensures c.bound_of-bound.ensures in
    let read = table_read c.args.values.now c.starts.start c.args.len (length c.args.classes.now) c.index-value.result.now c.index-values-len.result c.requires.rows c.requires.some (omega (arith, c.requires.inside, c.requires.each)) inside
    c.index-values-len.is c.index-value.ensures in
    (inside, λ holds. omega (arith, read, holds_within c.args.w.now c.args.classes.now (table_in c.args.values.now) c.starts.start c.args.len c.index-part.result.now c.args.sums.now c.bound_of-bound.result at holds, c.if-value-from.true, c.from.ensures), c.starts.invariant.holds)

pub starts-preserved : goal.starts-preserved
starts-preserved c =
    let inside : c.starts.start + c.args.len ≤ length c.args.classes.now = omega (arith, c.starts-test.true, c.len.ensures.value, c.requires.inside) in
    let sums : AreLeastSums (length c.args.classes.now) c.args.len c.args.sums.now.runs.items c.args.sums.now.cuts.items (c.args.len - 1) c.in_ok-parts.parts.items =
    rw (c.len-entries.ensures.value, c.deref.ensures.value, c.deref-2.ensures.value) at c.in_ok-parts.ensures in
    let at = at_of c.args.w.now c.args.classes.now (table_in c.args.values.now) c.starts.start c.args.len c.index-part.result.now c.args.sums.now c.bound_of-bound.result c.in_ok-parts.parts.items c.requires.light
    c.requires.few c.requires.some inside c.requires.known sums c.index-part.ensures c.bound_of-bound.ensures in
    let read = table_read c.args.values.now c.starts.start c.args.len (length c.args.classes.now) c.index-value.result.now c.index-values-len.result c.requires.rows c.requires.some (omega (arith, c.requires.inside, c.requires.each)) inside
    c.index-values-len.is c.index-value.ensures in
    one_known c.args.w.now c.args.classes.now (table_in c.args.values.now) c.args.len c.starts.start c.index-value.result.now c.index-part.result.now c.args.sums.now c.bound_of-bound.result c.starts.level c.push.new.self at
    (omega (arith, read, c.if-value-from.false, c.from.ensures)) (sym read) c.starts.invariant c.in_ok-push.ensures.lows c.in_ok-push.ensures.runs c.in_ok-push.ensures.cuts

pub returns : goal.returns
returns c =
    let end : c.starts.start ≡ length c.args.classes.now + 1 - c.args.len = omega (arith, c.starts-test.false, c.starts.auto.start-end, c.len.ensures.value) in
    subst (λ n. IsKnownLevel c.args.w.now c.args.classes.now (table_in c.args.values.now) c.args.len n c.starts.level) end c.starts.invariant
