use Rattle.std.proofs.Common.{◌-◌}
use Rattle.dt_alike.proofs.Filling.{earliest}
use Rattle.dt_alike.proofs.classes.Classes.first.Goals as goal

pub returns-clause-before : goal.returns-clause-before
returns-clause-before c = rw c.at.ensures.first (earliest c.args.self.now c.args.i (c.args.j - c.args.i)).before
