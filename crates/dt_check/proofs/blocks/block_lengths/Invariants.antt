use Rattle.dt_normal.proofs.Splitting.{LengthsBelow}
use Rattle.dt_check.proofs.blocks.block_lengths.Given as goal

abbrev pub invariant-blocks-2 : goal.invariant-blocks-2
invariant-blocks-2 l = LengthsBelow l.len l.block l.lengths.items
