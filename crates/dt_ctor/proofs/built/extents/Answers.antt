use mir.Syntax.{w128}
use Rattle.std.proofs.Common.{◌<◌, ◌^◌, ◌∙◌, ℤ, nat_abs, sym, subst, FitsSigned}
use Rattle.std.proofs.lemmas.Int.{to_z-of_z}
use Rattle.dt_ctor.proofs.Products.{factor, product_fits, wide_times}
use Rattle.dt_ctor.proofs.built.extents.Goals as goal

pub overflow_mul-result : goal.overflow_mul-result
overflow_mul-result c =
    let product = wide_times c.args.times c.args.extent c.ranges.times c.ranges.extent c.requires c.from.result c.from.ensures in
    subst (FitsSigned w128) (sym product) (product_fits c.args.times c.args.extent c.ranges.times c.ranges.extent c.requires)

pub returns-clause-value : goal.returns-clause-value
returns-clause-value c =
    let product = wide_times c.args.times c.args.extent c.ranges.times c.ranges.extent c.requires c.from.result c.from.ensures in
    to_z-of_z w128 _ (subst (FitsSigned w128) (sym product) (product_fits c.args.times c.args.extent c.ranges.times c.ranges.extent c.requires)) ∙ product

pub returns-clause-factor : goal.returns-clause-factor
returns-clause-factor c =
    let product = wide_times c.args.times c.args.extent c.ranges.times c.ranges.extent c.requires c.from.result c.from.ensures in
    let fits = subst (FitsSigned w128) (sym product) (product_fits c.args.times c.args.extent c.ranges.times c.ranges.extent c.requires) in
    subst (λ (x : ℤ). nat_abs x < 2 ^ 93) (sym (to_z-of_z w128 _ fits ∙ product)) (factor c.args.times c.args.extent c.ranges.times c.ranges.extent c.requires)
