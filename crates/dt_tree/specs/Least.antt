use Rattle.std.specs.Prelude.{◌≤◌, ℤ, List}
use Rattle.dt_map.specs.declared.entry.Entry.{Entry}
use Rattle.dt_tree.specs.Weights.{Weights}
use Rattle.dt_tree.specs.Tree.{Tree, Denotes}
use Rattle.dt_tree.specs.Cost.{cost_of}

-- a least tree of entries: it stands for them, and no tree that stands for them, from whatever base on, costs less
abbrev pub IsLeast : Weights → List Entry → ℤ → Tree → Type 0
IsLeast w entries base tree = Denotes tree base entries × ((y : ℤ) (other : Tree) → Denotes other y entries → cost_of w tree ≤ cost_of w other)
