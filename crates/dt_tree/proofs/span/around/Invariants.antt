use Rattle.std.proofs.Common.{◌≡◌, drop}
use Rattle.dt_offsets.specs.Span.{joined_marks, reach_of}
use Rattle.dt_tree.proofs.span.around.Given as goal

abbrev pub invariant-places : goal.invariant-places
invariant-places l = joined_marks l.span (reach_of (drop l.place-index l.places)) ≡ reach_of l.places
