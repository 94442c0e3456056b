use Rattle.std.proofs.Common.{sym, ◌∙◌}
use Rattle.dt_names.proofs.WordLemmas.{kind_found}
use Rattle.dt_names.proofs.types.Types.find_kind.Goals as goal

pub returns-in-Ok : goal.returns-in-Ok
returns-in-Ok c = kind_found c.args.self.now.entries c.args.word.now c.in-Ok.kind c.requires (sym c.of_name.ensures ∙ c.in-Ok.is)
