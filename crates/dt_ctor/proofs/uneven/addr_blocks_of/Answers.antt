use Rattle.dt_ctor.proofs.RowPlaces.{addr_blocks_finished}
use Rattle.dt_ctor.proofs.uneven.addr_blocks_of.Goals as goal

pub returns : goal.returns
returns c = addr_blocks_finished c.args.blocks.now c.args.old.now c.loop-block.block-index _ _ _ c.spots-2.view_is c.loop-block.invariant c.loop-block-test.false c.in_ok-share.ensures
