use Rattle.dt_machine.proofs.Turning.{order_is_free}
use Rattle.dt_machine.proofs.laws.order_is_free.Goals as goal

pub returns : goal.returns
returns c = order_is_free
