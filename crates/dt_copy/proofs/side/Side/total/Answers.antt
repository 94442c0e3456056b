use Rattle.std.proofs.Common.{length, ap, ◌∙◌}
use Rattle.dt_copy.specs.Side.{kinds_of}
use Rattle.dt_copy.proofs.Given.{whole_kinds}
use Rattle.dt_copy.proofs.side.Side.total.Goals as goal

pub returns : goal.returns
returns c =
    let i = c.self.inside in
    c.total.ensures ∙ whole_kinds i.cursor i.origin c.self.invariant.native ∙ ap (λ r. length (kinds_of r.elements)) c.self.view_is
