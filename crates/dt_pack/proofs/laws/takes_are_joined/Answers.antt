use Rattle.dt_pack.proofs.Taking.{takes_are_joined}
use Rattle.dt_pack.proofs.laws.takes_are_joined.Goals as goal

pub returns : goal.returns
returns c = takes_are_joined
