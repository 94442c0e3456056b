use Rattle.std.proofs.Common.{subst, ◌∙◌}
use Rattle.dt_form.specs.declared.form.FormOf.TheVariants as form
use Rattle.dt_space.specs.New.{IsNewOf}
use Rattle.dt_c.specs.Arrays.{sub_dims}
use Rattle.dt_c.proofs.arrays.subarray.Goals as goal

pub returns : goal.returns
returns c =
    let made = c.subarray.ensures in
    let dims = c.deref.ensures.value ∙ c.in-Ok.ensures in
    subst (λ order. IsNewOf c.args.space.now c.subarray.new.self c.args.old (λ u. form.Subarray (sub_dims c.args.sizes.now c.args.subs.now c.args.starts.now) order u) c.subarray.result) c.order_of.ensures
    (subst (λ ds. IsNewOf c.args.space.now c.subarray.new.self c.args.old (λ u. form.Subarray ds c.order_of.result u) c.subarray.result) dims made)
