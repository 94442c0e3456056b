use mir.Syntax.{w128}
use Rattle.std.proofs.Common.{◌∙◌, sym, subst}
use Rattle.std.specs.List.{AllByRecursion}
use Rattle.std.proofs.lemmas.Int.{to_z-of_z}
use Rattle.std.proofs.lemmas.Result.{MatchResult-weaker}
use Rattle.dt_array.specs.Indices.{AreInside}
use Rattle.dt_array.proofs.Lists.{all_reverse}
use Rattle.dt_array.proofs.Wrapping.{outermost_inside, nest_of, no_nest}
use Rattle.dt_array.proofs.nest.nested.Goals as goal

pub around-requires : goal.around-requires
around-requires c =
    subst (AllByRecursion AreInside) (sym (c.deref.ensures.value ∙ c.innermost_first-dims.ensures)) (all_reverse AreInside _ (outermost_inside c.args.order c.args.dims.items c.requires))

pub returns : goal.returns
returns c =
    let extent = to_z-of_z w128 c.args.extent c.ranges.extent in
    let inner = c.deref.ensures.value ∙ c.innermost_first-dims.ensures in
    MatchResult-weaker c.around.result c.around.ensures (nest_of _ _ extent c.args.order c.args.dims.items _ inner) (no_nest _ _ extent c.args.order c.args.dims.items _ inner)
