use Rattle.std.proofs.Common.{◌≡◌, map, take}
use Rattle.dt_map.specs.Typemap.{shift}
use Rattle.dt_tree.specs.Node.{tree_of}
use Rattle.dt_tree.specs.Place.{place_of}
use Rattle.dt_tree.specs.Tree.{flat}
use Rattle.dt_tree.proofs.tree.Tree.listed.Given as goal

abbrev pub invariant-places : goal.invariant-places
invariant-places l = l.list.items ≡ map place_of (shift l.base (take l.k (flat (tree_of l.self))))
