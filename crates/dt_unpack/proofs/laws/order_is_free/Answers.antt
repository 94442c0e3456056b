use Rattle.dt_unpack.proofs.Apart.{order_is_free}
use Rattle.dt_unpack.proofs.laws.order_is_free.Goals as goal

pub returns : goal.returns
returns c = order_is_free
