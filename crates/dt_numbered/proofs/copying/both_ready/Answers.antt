use Rattle.dt_numbered.proofs.Between.{both_are}
use Rattle.dt_numbered.proofs.copying.both_ready.Goals as goal

pub returns-in-Ok-ready : goal.returns-in-Ok-ready
returns-in-Ok-ready c = both_are c.args.space.now c.args.from c.args.onto c.in-Ok.ty c.in-Ok-ready.target c.in-Ok.ensures c.in-Ok-ready.ensures
