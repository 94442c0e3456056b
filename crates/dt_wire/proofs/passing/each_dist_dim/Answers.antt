use Rattle.std.proofs.Common.{rules, ◌≡◌, Ok, Err, ◌∙◌, arith}
use Rattle.dt_wire.specs.Skipping.{skip_dist_dim}
use Rattle.dt_wire.proofs.Erasing.{times_next, times_stop, times_end}
use Rattle.dt_wire.proofs.passing.each_dist_dim.Goals as goal

pub returns-in_err-rest : goal.returns-in_err-rest
returns-in_err-rest c =
    let stop : skip_dist_dim c.dims.rest.now ≡ Err c.in_err-rest.field-0.0.now = search rules in
    let all = c.dims.invariant ∙ times_stop skip_dist_dim c.args.n c.dims.counter c.dims.rest.now c.in_err-rest.field-0.0.now (omega arith) stop in
    search (rules, all)

pub dims-preserved : goal.dims-preserved
dims-preserved c =
    let step : skip_dist_dim c.dims.rest.now ≡ Ok c.in_ok-rest.rest.now = search rules in
    c.dims.invariant ∙ times_next skip_dist_dim c.args.n c.dims.counter c.dims.rest.now c.in_ok-rest.rest.now (omega arith) step

pub returns : goal.returns
returns c = c.dims.invariant ∙ times_end skip_dist_dim c.args.n c.dims.counter c.dims.rest.now (omega arith)
