use Rattle.dt_wire.proofs.Levels.{each_type_has_a_spelling}
use Rattle.dt_wire.proofs.laws.each_type_has_a_spelling.Goals as goal

pub returns : goal.returns
returns c = each_type_has_a_spelling
