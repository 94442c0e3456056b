use Rattle.std.proofs.Common.{sym, ◌∙◌}
use Rattle.dt_names.proofs.WordLemmas.{plain_unknown}
use Rattle.dt_names.proofs.types.Types.kept.Goals as goal

pub returns-in-None : goal.returns-in-None
returns-in-None c =
    plain_unknown c.args.self.now.entries c.args.word.now (sym c.is_reserved.ensures ∙ c.if-is_reserved.false) c.in-None.ensures
