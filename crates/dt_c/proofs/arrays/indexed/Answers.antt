use Rattle.std.proofs.Common.{subst, ◌∙◌}
use Rattle.dt_form.specs.declared.form.FormOf.TheVariants as form
use Rattle.dt_space.specs.New.{IsNewOf}
use Rattle.dt_c.proofs.arrays.indexed.Goals as goal

pub returns : goal.returns
returns c =
    subst (λ bs. IsNewOf c.args.space.now c.indexed.new.self c.args.old (λ u. form.Indexed bs u) c.indexed.result) (c.deref.ensures.value ∙ c.in-Ok.ensures) c.indexed.ensures
