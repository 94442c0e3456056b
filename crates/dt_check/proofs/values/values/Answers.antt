use Rattle.std.proofs.Common.{◌≡◌, ℕ, ap, ◌∙◌, ◌-◌, ◌+◌, length, get_or, drop, arith, subst, sym}
use Rattle.std.proofs.lemmas.List.{with_items_is, get_or_default}
use Rattle.std.proofs.lemmas.List.Elements.{All-get_or}
use Rattle.dt_normal.specs.declared.low.Low.{Low}
use Rattle.dt_check.specs.Members.{table_of, IsMember}
use Rattle.dt_check.specs.Rows.{AreRows, table_in, with_value}
use Rattle.dt_check.proofs.Rowed.{AreValues, no_values, more_values}
use Rattle.dt_check.proofs.values.values.Goals as goal

abbrev nothing : Low
nothing = record { from = 0; to = 0; low = 0 }

pub lows-init : goal.lows-init
lows-init c =
    no_values (length c.args.classes.now) c.args.lows.now c.in_ok-rows.rows.items (subst (λ n. AreRows n c.in_ok-rows.rows.items) c.len.ensures.value c.in_ok-rows.ensures.rows)
    (omega (arith, c.in_ok-rows.ensures.each, c.len.ensures.value)) c.in_ok-rows.ensures.values

pub set_value-requires-clause-rows : goal.set_value-requires-clause-rows
set_value-requires-clause-rows c = rw c.deref_mut.ensures.value (subst (λ n. AreRows n c.lows.rows.items) (sym c.lows.invariant.each) c.lows.invariant.shape)

pub set_value-requires-clause-inside : goal.set_value-requires-clause-inside
set_value-requires-clause-inside c =
    let is = All-get_or (IsMember c.args.classes.now) c.args.lows.now (length c.args.lows.now - 1 - c.lows.k) nothing (omega (arith, c.lows-test.true)) c.requires.members in
    omega (arith, is.0, is.1, ap length c.deref_mut.ensures.value, c.lows.invariant.each)

pub lows-preserved : goal.lows-preserved
lows-preserved c =
    let n = length c.args.classes.now in
    let lows = c.args.lows.now in
    let i = length lows - 1 - c.lows.k in
    let a = get_or lows i nothing in
    let now = c.set_value.new.rows in
    let long : length now ≡ n = omega (arith, c.set_value.ensures.each, ap length c.deref_mut.ensures.value, c.lows.invariant.each) in
    let shape : AreRows n now = subst (λ k. AreRows k now) (omega (arith, ap length c.deref_mut.ensures.value, c.lows.invariant.each)) c.set_value.ensures.rows in
    let set : (start len : ℕ) → table_in now start len ≡ with_value (table_in c.lows.rows.items) a.from (a.to - a.from) a.low start len = rw c.deref_mut.ensures.value at c.set_value.ensures.values in
    subst (AreValues n (c.lows.k + 1) lows) (sym (with_items_is c.lows.rows now (omega (arith, long, c.lows.invariant.each, c.lows.rows.ok.0))))
    (more_values n c.lows.k lows c.lows.rows.items now a c.lows.invariant c.lows-test.true (get_or_default lows i nothing a (omega (arith, c.lows-test.true))) shape long set)

pub returns-clause-rows : goal.returns-clause-rows
returns-clause-rows c = c.lows.invariant.shape

pub returns-clause-each : goal.returns-clause-each
returns-clause-each c = c.lows.invariant.each

pub returns-clause-values : goal.returns-clause-values
returns-clause-values c start len =
    let all : length c.args.lows.now - c.lows.k ≡ 0 = omega (arith, c.lows-test.false) in
    c.lows.invariant.values start len ∙ ap (λ i. table_of (drop i c.args.lows.now) start len) all
