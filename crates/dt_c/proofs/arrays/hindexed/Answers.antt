use Rattle.std.proofs.Common.{subst, ◌∙◌}
use Rattle.dt_form.specs.declared.form.FormOf.TheVariants as form
use Rattle.dt_space.specs.New.{IsNewOf}
use Rattle.dt_c.proofs.arrays.hindexed.Goals as goal

pub returns : goal.returns
returns c =
    subst (λ bs. IsNewOf c.args.space.now c.hindexed.new.self c.args.old (λ u. form.Hindexed bs u) c.hindexed.result) (c.deref.ensures.value ∙ c.in-Ok.ensures) c.hindexed.ensures
