use Rattle.std.proofs.Common.{length}
use Rattle.dt_elems.proofs.apart.+grid_room.Given as goal

abbrev pub decreases-grid_room : goal.decreases-grid_room
decreases-grid_room l = length l.turns.now
