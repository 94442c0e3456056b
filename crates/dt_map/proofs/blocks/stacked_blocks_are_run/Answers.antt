use Rattle.dt_map.proofs.Stacks.{stacked_blocks_are_run}
use Rattle.dt_map.proofs.blocks.stacked_blocks_are_run.Goals as goal

pub returns : goal.returns
returns c = stacked_blocks_are_run
