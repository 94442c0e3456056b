use Rattle.dt_elems.proofs.Receiving.{received_are_done}
use Rattle.dt_elems.proofs.laws.received_are_done.Goals as goal

pub returns : goal.returns
returns c = received_are_done
