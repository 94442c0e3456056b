use Rattle.dt_form.specs.Form.{olds_of}
use Rattle.dt_type.proofs.Olds.{one_more}
use Rattle.dt_type.proofs.contents.types.Goals as goal

pub olds-preserved : goal.olds-preserved
olds-preserved c =
    let next = one_more (olds_of c.args.form.now) c.olds.k _ c.old_type.ensures in
    let before = c.olds.invariant in
    let shared = c.in_ok-share.ensures in
    let pushed = c.in_ok-push.ensures in
    cc
