use Rattle.std.proofs.Common.{◌≡◌}
use Rattle.dt_normal.specs.Places.{places_of}
use Rattle.dt_normal.proofs.nodes.places.Given as goal

abbrev pub invariant-blocks-2 : goal.invariant-blocks-2
invariant-blocks-2 l = l.places.items ≡ places_of l.entries l.at.start l.block l.k
