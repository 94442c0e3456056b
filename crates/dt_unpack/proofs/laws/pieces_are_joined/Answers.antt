use Rattle.dt_unpack.proofs.Receiving.{pieces_are_joined}
use Rattle.dt_unpack.proofs.laws.pieces_are_joined.Goals as goal

pub returns : goal.returns
returns c = pieces_are_joined
