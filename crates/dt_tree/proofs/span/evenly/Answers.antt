use mir.Syntax.{w64}
use Rattle.std.proofs.Common.{◌∙◌, ap, pos, ◌*ℤ◌, ◌-◌}
use Rattle.std.proofs.lemmas.Int.{to_z-of_z}
use Rattle.dt_tree.proofs.Spans.{even_reach, same128}
use Rattle.dt_tree.proofs.span.evenly.Goals as goal

pub returns-clause-value : goal.returns-clause-value
returns-clause-value c =
    let last = same128 c.steps-last.result c.steps-last.type_inv in
    let min = same128 c.min.result c.min.type_inv in
    let max = same128 c.max.result c.max.type_inv in
    let by = ap (λ x. pos (c.args.count - 1) *ℤ x) (to_z-of_z w64 c.args.step c.ranges.step) in
    even_reach c.args.count c.args.step _ _ _ c.requires.some (last ∙ (c.steps-last.ensures.value ∙ by)) (min ∙ c.min.ensures.value) (max ∙ c.max.ensures.value)
