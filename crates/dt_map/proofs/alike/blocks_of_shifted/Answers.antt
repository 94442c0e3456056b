use Rattle.dt_map.proofs.Likeness.{blocks_of_shifted}
use Rattle.dt_map.proofs.alike.blocks_of_shifted.Goals as goal

pub returns : goal.returns
returns c = blocks_of_shifted
