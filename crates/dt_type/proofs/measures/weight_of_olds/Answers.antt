use Rattle.std.proofs.Common.{arith}
use Rattle.dt_form.specs.Form.{olds_of}
use Rattle.dt_type.proofs.Olds.{weighs_more}
use Rattle.dt_type.proofs.measures.weight_of_olds.Goals as goal

pub olds-preserved : goal.olds-preserved
olds-preserved c =
    let more = weighs_more (olds_of c.args.form.now) c.olds.k _ c.old_type.ensures in
    let before = c.olds.invariant in
    let one = c.weight.ensures.value in
    let sum = c.saturating_add-weight.ensures in
    omega arith
