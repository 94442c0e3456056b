use Rattle.dt_unpack.proofs.Receiving.{received_is_sent}
use Rattle.dt_unpack.proofs.laws.received_is_sent.Goals as goal

pub returns : goal.returns
returns c = received_is_sent
