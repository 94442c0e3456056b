-- What a certificate says.
use Rattle.std.specs.Prelude.{ℕ, ℤ, Option, List}
use Rattle.dt_map.specs.declared.entry.Entry.{Entry}
use Rattle.dt_tree.specs.Tree.{Tree}
use Rattle.dt_tree.specs.Weights.{Weights}
use Rattle.dt_normal.specs.declared.low.Low.{Low}

-- whether values are given to single segments, or to all that are alike
pub data Version : Type 0 where
  BySegments : Version
  ByClasses : Version

-- six weights, the entries of a typemap, a tree that stands for them from a base on (none for no entries), what it costs, and the values
-- of a table that shows that no tree costs less
pub record Certificate : Type 0 where
  pub version : Version
  pub weights : Weights
  pub entries : List Entry
  pub base : ℤ
  pub tree : Option Tree
  pub cost : ℕ
  pub values : List Low
