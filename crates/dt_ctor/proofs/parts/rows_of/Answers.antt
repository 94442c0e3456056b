use Rattle.dt_ctor.proofs.RowPlaces.{parts_finished}
use Rattle.dt_ctor.proofs.parts.rows_of.Goals as goal

pub returns : goal.returns
returns c = parts_finished c.args.parts.now c.loop-part.part-index c.loop-part.rows c.loop-part.invariant c.loop-part-test.false
