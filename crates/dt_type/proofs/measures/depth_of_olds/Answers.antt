use Rattle.std.proofs.Common.{arith}
use Rattle.dt_form.specs.Form.{olds_of}
use Rattle.dt_type.specs.Whole.{IsWhole}
use Rattle.dt_type.proofs.Olds.{deeper, whole_more}
use Rattle.dt_type.proofs.measures.depth_of_olds.Goals as goal

pub olds-preserved : goal.olds-preserved
olds-preserved c =
    let olds = olds_of c.args.form.now in
    let more = deeper olds c.olds.k _ c.old_type.ensures in
    let before = c.olds.invariant.0 in
    let one = c.depth.ensures.value in
    let most = c.max-depth.ensures in
    (omega arith, whole_more IsWhole olds c.olds.k _ c.old_type.ensures c.olds.invariant.1 c.depth.ensures.whole)
