use Rattle.dt_map.specs.Typemap.{shift}
use Rattle.dt_tree.specs.Node.{tree_of}
use Rattle.dt_tree.specs.Tree.{flat}
use Rattle.dt_cert.proofs.Comparing.{AreSame}
use Rattle.dt_cert.proofs.judging.first_difference.Given as goal

abbrev pub invariant-entries : goal.invariant-entries
invariant-entries l = AreSame (shift l.base (flat (tree_of l.tree))) l.entries l.k
