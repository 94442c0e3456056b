use Rattle.std.proofs.Common.{◌+◌}
use Rattle.dt_ops.proofs.Range.{masked}
use Rattle.dt_ops.proofs.ops.sum.Goals as goal

pub returns : goal.returns
returns c = masked c.args.kind (c.args.a + c.args.b) c.greatest.result c.greatest.ensures
