use Rattle.std.proofs.Common.{subst, sym, ◌∙◌}
use Rattle.std.proofs.lemmas.Int.{to_z-of_z}
use Rattle.std.specs.Int.{w32}
use Rattle.dt_form.specs.declared.form.FormOf.TheVariants as form
use Rattle.dt_space.specs.New.{IsNewOf}
use Rattle.dt_c.specs.Arrays.{dist_dims}
use Rattle.dt_c.proofs.arrays.darray.Goals as goal

pub returns : goal.returns
returns c =
    let a = c.args in
    let made = simp (to_z-of_z w32 a.size c.ranges.size, to_z-of_z w32 a.rank c.ranges.rank) at c.darray.ensures in
    let dims = c.deref.ensures.value ∙ c.in-Ok.ensures in
    subst (λ order. IsNewOf a.space.now c.darray.new.self a.old (λ u. form.Darray a.size a.rank (dist_dims a.gsizes.now a.dists.now a.dargs.now a.psizes.now) order u) c.darray.result) c.order_of.ensures
    (subst (λ ds. IsNewOf a.space.now c.darray.new.self a.old (λ u. form.Darray a.size a.rank ds c.order_of.result u) c.darray.result) dims made)
