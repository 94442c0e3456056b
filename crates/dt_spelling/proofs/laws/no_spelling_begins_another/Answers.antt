use Rattle.dt_spelling.proofs.Uniques.{no_spelling_begins_another}
use Rattle.dt_spelling.proofs.laws.no_spelling_begins_another.Goals as goal

pub returns : goal.returns
returns c = no_spelling_begins_another
