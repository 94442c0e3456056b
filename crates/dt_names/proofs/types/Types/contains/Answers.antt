use Rattle.std.proofs.Common.{◌∙◌}
use Rattle.dt_names.proofs.StandingLemmas.{is_some-under}
use Rattle.dt_names.proofs.types.Types.contains.Goals as goal

pub returns : goal.returns
returns c = c.contains_key.ensures ∙ is_some-under c.self.invariant c.self.view_is c.args.name.now
