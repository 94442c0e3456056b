use Rattle.std.specs.Prelude.{◌≡◌, ℕ, ℤ, Option, Some, None, List, []}
use Rattle.dt_map.specs.declared.entry.Entry.{Entry}
use Rattle.dt_tree.specs.Least.{IsLeast}
use Rattle.dt_tree.specs.Tree.{Tree}
use Rattle.dt_tree.specs.Weights.{Weights}
use Rattle.dt_cert.specs.Certificate.{Certificate}
use Rattle.dt_cert.specs.Shown.{Holds, IsShown}

-- a tree is least for some entries, and none is for no entries
abbrev pub IsLeastIfAny : Weights → List Entry → ℤ → Option Tree → Type 0
IsLeastIfAny w m base None = m ≡ []
IsLeastIfAny w m base (Some tree) = IsLeast w m base tree

-- the tree of a certificate that holds stands for its entries, and no tree that does, from whatever base on, costs less
abbrev pub HoldsIsLeast : Type 0
HoldsIsLeast = (c : Certificate) → Holds c → IsLeastIfAny c.weights c.entries c.base c.tree

-- so a text that shows a certificate shows that its tree is least
abbrev pub ShownIsLeast : Type 0
ShownIsLeast = (text : List ℕ) (c : Certificate) → IsShown text c → IsLeastIfAny c.weights c.entries c.base c.tree
