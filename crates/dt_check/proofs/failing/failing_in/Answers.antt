use Rattle.std.proofs.Common.{◌≡◌, ◌+◌, ◌-◌, arith, subst}
use Rattle.dt_check.specs.Failing.{IsFirstFailing}
use Rattle.dt_check.specs.Levels.{AreKnown, IsTested}
use Rattle.dt_check.specs.Rows.{table_in}
use Rattle.dt_check.specs.declared.level.Tested.TheVariants.{Holds, Fails}
use Rattle.dt_check.proofs.Everywhere.{all_valid, first_fails}
use Rattle.dt_check.proofs.Leveling.{more_known}
use Rattle.dt_check.proofs.failing.failing_in.Goals as goal

pub test_length-requires-clause-known : goal.test_length-requires-clause-known
test_length-requires-clause-known c =
    let same : c.lengths.k ≡ c.lengths.k + 1 - 1 = omega arith in
    subst (λ n. AreKnown c.args.w.now c.args.classes.now (table_in c.args.values.now) n c.lengths.sums) same c.lengths.invariant

pub returns-in-Fails : goal.returns-in-Fails
returns-in-Fails c =
    let low = table_in c.args.values.now in
    let tested : IsTested c.args.w.now c.args.classes.now low (c.lengths.k + 1) (Fails c.in-Fails.start) = subst (IsTested c.args.w.now c.args.classes.now low (c.lengths.k + 1)) c.in-Fails.is c.in_ok-level.ensures in
    let long : c.lengths.k + 1 ≡ c.in-Fails.start + c.lengths.k + 1 - c.in-Fails.start = omega arith in
    subst (IsFirstFailing c.args.w.now c.args.classes.now low c.in-Fails.start) long
    (first_fails c.args.w.now c.args.classes.now low c.lengths.k c.in-Fails.start c.lengths.sums c.lengths.invariant tested.0 tested.1 tested.2)

pub lengths-preserved : goal.lengths-preserved
lengths-preserved c =
    let low = table_in c.args.values.now in
    let tested : IsTested c.args.w.now c.args.classes.now low (c.lengths.k + 1) (Holds c.in-Holds.level) = subst (IsTested c.args.w.now c.args.classes.now low (c.lengths.k + 1)) c.in-Holds.is c.in_ok-level.ensures in
    more_known c.args.w.now c.args.classes.now low c.lengths.k c.lengths.sums c.push.new.self c.in-Holds.level (omega (arith, c.lengths-test.true, c.len-k-end.ensures.value)) c.lengths.invariant tested
    c.in_ok-push-in-Holds.ensures.lows c.in_ok-push-in-Holds.ensures.runs c.in_ok-push-in-Holds.ensures.cuts

pub returns : goal.returns
returns c = all_valid c.args.w.now c.args.classes.now (table_in c.args.values.now) c.lengths.k c.lengths.sums c.lengths.invariant (omega (arith, c.lengths-test.false, c.len-k-end.ensures.value))
