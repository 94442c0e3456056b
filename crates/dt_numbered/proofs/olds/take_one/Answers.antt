use Rattle.dt_numbered.proofs.Standing.{taken_back}
use Rattle.dt_numbered.proofs.olds.take_one.Goals as goal

pub returns : goal.returns
returns c = λ s t ty one same. taken_back s t c.args.space.now c.free-freed.new.self c.args.number ty c.free-freed.result c.free-freed.ensures one same
