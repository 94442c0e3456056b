use Rattle.dt_normal.proofs.Splitting.{LowestOf}
use Rattle.dt_check.specs.Blocks.{IsSplit, split_cost}
use Rattle.dt_check.proofs.blocks.lowest.Given as goal

abbrev pub invariant-lengths : goal.invariant-lengths
invariant-lengths l = LowestOf (IsSplit l.split l.classes l.at.start l.at.len) (split_cost l.w l.split l.costs l.at.start l.at.len) l.most l.lengths l.block-index l.least
