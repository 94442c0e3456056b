use Rattle.std.proofs.Common.{ap, ◌∙◌}
use Rattle.dt_kinds.specs.declared.kind.Rep.TheVariants.{Native}
use Rattle.dt_map.specs.Packed.{total}
use Rattle.dt_copy.specs.Plan.{Copy}
use Rattle.dt_copy.proofs.Elements.{length-kinds_of}
use Rattle.dt_copy.proofs.plan.CopyPlan.bytes.Goals as goal

pub returns : goal.returns
returns c = c.total.ensures ∙ length-kinds_of c.self.inside.source.elements ∙ ap (λ (p : Copy). total Native p.source) c.self.view_is
