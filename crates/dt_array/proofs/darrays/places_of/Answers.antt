use Rattle.dt_array.proofs.Grids.{places_step}
use Rattle.dt_array.proofs.darrays.places_of.Goals as goal

pub loop-dim-preserved : goal.loop-dim-preserved
loop-dim-preserved c = places_step c.args.dims.now c.loop-dim.dim-index _ _ _ _ c.loop-dim-test.true c.loop-dim.invariant c.places_in.ensures c.saturating_mul-places.ensures
