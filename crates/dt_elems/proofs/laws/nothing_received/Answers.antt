use Rattle.dt_elems.proofs.Receiving.{nothing_received}
use Rattle.dt_elems.proofs.laws.nothing_received.Goals as goal

pub returns : goal.returns
returns c = nothing_received
