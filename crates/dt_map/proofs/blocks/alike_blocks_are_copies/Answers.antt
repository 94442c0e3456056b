use Rattle.dt_map.proofs.Stacks.{alike_blocks_are_copies}
use Rattle.dt_map.proofs.blocks.alike_blocks_are_copies.Goals as goal

pub returns : goal.returns
returns c = alike_blocks_are_copies
