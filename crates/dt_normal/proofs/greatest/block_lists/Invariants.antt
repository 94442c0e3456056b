use Rattle.dt_normal.specs.Known.{AreBlockLists}
use Rattle.dt_normal.proofs.greatest.block_lists.Given as goal

abbrev pub invariant-lengths : goal.invariant-lengths
invariant-lengths l = AreBlockLists l.k l.lists.items
