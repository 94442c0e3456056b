use Rattle.std.proofs.Common.{length}
use Rattle.dt_layout.proofs.places.+close.Given as goal

abbrev pub decreases-close : goal.decreases-close
decreases-close l = length l.levels.now
