-- what a certificate shows
use Rattle.std.proofs.Common.{◌≡◌, ℕ, ◌≤◌, ℤ, Option, Some, None, List, length, arith}
use Rattle.dt_map.specs.declared.entry.Entry.{Entry}
use Rattle.dt_tree.specs.Tree.{Tree}
use Rattle.dt_tree.specs.Weights.{Weights}
use Rattle.dt_normal.specs.Table.{Table, IsValid}
use Rattle.dt_normal.proofs.Bounds.{reached_is_least}
use Rattle.dt_cert.specs.Laws.{HoldsIsLeast, IsLeastIfAny, ShownIsLeast}
use Rattle.dt_cert.specs.Shown.{StandsFor, cost_if_any}

least_of : (w : Weights) (m : List Entry) (base : ℤ) (tree : Option Tree) (cost : ℕ) (table : Table) → StandsFor tree base m → cost ≡ cost_if_any w tree → IsValid w m table → cost ≤ table 0 (length m)
    → IsLeastIfAny w m base tree
least_of w m base None cost table stands costs valid root = stands
least_of w m base (Some tree) cost table stands costs valid root = reached_is_least w m table base tree valid stands (omega (arith, costs, root))

pub holds_is_least : HoldsIsLeast
holds_is_least c h = least_of c.weights c.entries c.base c.tree c.cost _ h.stands h.costs h.valid h.root

pub shown_is_least : ShownIsLeast
shown_is_least text c shown = holds_is_least c shown.holds
