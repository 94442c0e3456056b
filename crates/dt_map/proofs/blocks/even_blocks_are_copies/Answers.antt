use Rattle.dt_map.proofs.Stacks.{even_blocks_are_copies}
use Rattle.dt_map.proofs.blocks.even_blocks_are_copies.Goals as goal

pub returns : goal.returns
returns c = even_blocks_are_copies
