use Rattle.dt_alike.proofs.Growing.{Grown}
use Rattle.dt_alike.proofs.extents.extents.Given as goal

abbrev pub invariant-entries : goal.invariant-entries
invariant-entries l = Grown l.entries l.entry-index l.span l.align l.extents.items
