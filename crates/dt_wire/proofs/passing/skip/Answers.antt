use Rattle.std.proofs.Common.{rules, ◌≡◌, Ok, Err, ◌∙◌, arith}
use Rattle.dt_wire.specs.Skipping.{skip, skip_byte}
use Rattle.dt_wire.proofs.Erasing.{times_next, times_stop, times_end}
use Rattle.dt_wire.proofs.passing.skip.Goals as goal

pub returns-in_err-rest : goal.returns-in_err-rest
unfolding skip
returns-in_err-rest c =
    let stop : skip_byte c.each.rest.now ≡ Err c.in_err-rest.field-0.0.now = search rules in
    let all = c.each.invariant ∙ times_stop skip_byte c.args.n c.each.counter c.each.rest.now c.in_err-rest.field-0.0.now (omega arith) stop in
    search (rules, all)

pub each-preserved : goal.each-preserved
each-preserved c =
    let step : skip_byte c.each.rest.now ≡ Ok c.in_ok-rest.field-0.1.now = search rules in
    c.each.invariant ∙ times_next skip_byte c.args.n c.each.counter c.each.rest.now c.in_ok-rest.field-0.1.now (omega arith) step

pub returns : goal.returns
unfolding skip
returns c = c.each.invariant ∙ times_end skip_byte c.args.n c.each.counter c.each.rest.now (omega arith)
