use Rattle.dt_map.proofs.Placings.{placing_of_placing}
use Rattle.dt_map.proofs.laws.placing_of_placing.Goals as goal

pub returns : goal.returns
returns c = placing_of_placing
