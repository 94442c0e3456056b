use Rattle.dt_ctor.proofs.OneCopy.{placed_once}
use Rattle.dt_ctor.proofs.once.one_of.Goals as goal

pub returns : goal.returns
returns c = placed_once _ _ _ c.new.ensures c.in_ok-share.ensures
