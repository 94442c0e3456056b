use Rattle.std.proofs.Common.{◌∙◌}
use Rattle.dt_names.proofs.StandingLemmas.{length-names}
use Rattle.dt_names.proofs.types.Types.len.Goals as goal

pub returns : goal.returns
returns c = c.len.ensures.len ∙ length-names c.self.invariant c.self.view_is
