use Rattle.std.specs.Prelude.{◌≡◌, ℕ, ◌≤◌, ◌<◌, ℤ, pos, Option, Some, None, List, [], length}
use Rattle.dt_map.specs.declared.entry.Entry.{Entry}
use Rattle.dt_map.specs.Alike.{first_disp}
use Rattle.dt_tree.specs.declared.node.Node.{Node}
use Rattle.dt_tree.specs.Cost.{cost_of}
use Rattle.dt_tree.specs.Least.{IsLeast}
use Rattle.dt_tree.specs.Node.{tree_of}
use Rattle.dt_tree.specs.Tidy.{IsTidy}
use Rattle.dt_tree.specs.Tree.{Tree}
use Rattle.dt_tree.specs.Weights.{Weights}
use Rattle.dt_normal.specs.declared.best.Best.{Best}
use Rattle.dt_normal.specs.declared.best.NormalFault.{NormalFault}
use Rattle.dt_normal.specs.declared.best.NormalFault.TheVariants.{TooMany, NoMemory}
use Rattle.dt_normal.specs.declared.low.Low.{Low}
use Rattle.dt_normal.specs.Lows.{IsGreatest, listed}
use Rattle.dt_normal.specs.Table.{Table}

-- a tidy tree of some entries, from the first displacement on, that no tree of them costs less than, and the table that shows it
pub record IsBestTree (w : Weights) (m : List Entry) (base : ℤ) (tree : Tree) (cost : ℕ) (lows : List Low) : Type 0 where
  pub some : 0 < length m
  pub first : base ≡ first_disp m
  pub tidy : IsTidy tree
  -- it stands for the entries from the base on, and no tree that does, from whatever base on, costs less
  pub least : IsLeast w m base tree
  pub costs : cost ≡ cost_of w tree
  -- the greatest valid table, which says of the whole what the tree costs
  pub shown : (table : Table) × IsGreatest w m table × (lows ≡ listed (length m) table) × (table 0 (length m) ≡ cost)

-- of no entries
pub record IsNoTree (m : List Entry) (base : ℤ) (cost : ℕ) (lows : List Low) : Type 0 where
  pub none : m ≡ []
  pub base_zero : base ≡ pos 0
  pub cost_zero : cost ≡ 0
  pub no_lows : lows ≡ []

abbrev pub IsBestOf : Weights → List Entry → ℤ → Option Node → ℕ → List Low → Type 0
IsBestOf w m base None cost lows = IsNoTree m base cost lows
IsBestOf w m base (Some node) cost lows = IsBestTree w m base (tree_of node) cost lows

-- what is best for some entries
abbrev pub IsBest : Weights → List Entry → Best → Type 0
IsBest w m best = IsBestOf w m best.base best.tree best.cost best.lows.items

-- why there is none: more than 1,024 entries, or memory ran out
abbrev pub IsNotFound : List Entry → NormalFault → Type 0
IsNotFound m TooMany = 1024 < length m
IsNotFound m NoMemory = length m ≤ 1024
