use Rattle.dt_wire.proofs.Uniques.{no_spelling_begins_another}
use Rattle.dt_wire.proofs.laws.no_spelling_begins_another.Goals as goal

pub returns : goal.returns
returns c = no_spelling_begins_another
