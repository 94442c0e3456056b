use Rattle.dt_wire.proofs.Refused.{one_bad_place}
use Rattle.dt_wire.proofs.laws.one_bad_place.Goals as goal

pub returns : goal.returns
returns c = one_bad_place
