use Rattle.std.specs.Prelude.{◌≡◌, ℕ, ◌+◌, ◌-◌, ◌*◌, ◌/◌, ◌≤◌, ◌<◌, List}
use Rattle.dt_alike.specs.Blocks.{AreStacked}
use Rattle.dt_alike.specs.Step.{entry_at}
use Rattle.dt_map.specs.declared.entry.Entry.{Entry}
use Rattle.dt_map.specs.Alike.{segment}
use Rattle.dt_map.specs.Runs.{run}
use Rattle.dt_map.specs.Typemap.{shift}
use Rattle.dt_tree.specs.Cost.{cost_of}
use Rattle.dt_tree.specs.Tidy.{IsTidy}
use Rattle.dt_tree.specs.Tree.{Tree, flat, IsTree, Denotes}
use Rattle.dt_tree.specs.Weights.{Weights}
use Rattle.dt_normal.specs.declared.form.Form.{Form}
use Rattle.dt_normal.specs.declared.form.Form.TheVariants.{Leaf, Vectors, Indices, Block, Parts}
use Rattle.dt_normal.specs.declared.form.Wrap.{Wrap}
use Rattle.dt_normal.specs.declared.form.Wrap.TheVariants.{Vector, Index, Part}
use Rattle.dt_normal.specs.declared.split.Split.TheVariants.{Alike, Even, Stacked}
use Rattle.dt_normal.specs.Costs.{IsLeastOf, IsTreeCost, IsBlockCost, IsPartsCost}
use Rattle.dt_normal.specs.Splits.{IsSplit}

-- what a node over one block costs by itself
abbrev pub wrap_weight : Weights → Wrap → ℕ
wrap_weight w Vector = w.vector
wrap_weight w Index = w.index + w.place
wrap_weight w Part = w.group + w.part

-- how the cheapest tree of a segment is made
abbrev pub IsForm : Weights → List Entry → ℕ → ℕ → Form → Type 0
IsForm w m start len Leaf = len ≡ 1
IsForm w m start len (Vectors block) =
    IsSplit Even m start len block × ((cost : ℕ) → IsLeastOf (IsBlockCost w m start block) cost → IsLeastOf (IsTreeCost w m start len) (w.vector + cost))
IsForm w m start len (Indices block) =
    IsSplit Alike m start len block
    × ((cost : ℕ) → IsLeastOf (IsBlockCost w m start block) cost → IsLeastOf (IsTreeCost w m start len) (w.index + w.place * (len / block) + cost))
IsForm w m start len (Block wrap block) =
    IsSplit Stacked m start len block × ((cost : ℕ) → IsLeastOf (IsTreeCost w m start block) cost → IsLeastOf (IsTreeCost w m start len) (wrap_weight w wrap + cost))
IsForm w m start len Parts =
    (2 ≤ len) × ((cost : ℕ) → IsLeastOf (IsPartsCost w m start len (len - 1)) cost → IsLeastOf (IsTreeCost w m start len) (w.group + cost))

-- the length of the blocks of which the first one's cheapest tree is that of a block; where this is the segment itself, no stacked blocks
-- are as cheap
pub record IsBlockAt (w : Weights) (m : List Entry) (start len size : ℕ) : Type 0 where
  pub some : 1 ≤ size
  pub within : size ≤ len
  pub whole : len / size * size ≡ len
  pub stacked : AreStacked m start size (len / size)
  pub least : (cost : ℕ) → IsLeastOf (IsTreeCost w m start size) cost → IsLeastOf (IsBlockCost w m start len) cost
  pub longest :
      size ≡ len → (block count cost : ℕ) → count * block ≡ len → 1 < count → AreStacked m start block count → IsTreeCost w m start block cost → (least : ℕ)
      → IsLeastOf (IsBlockCost w m start len) least → least < cost

-- a tidy tree of a segment, from the displacement of its first entry on, that costs as little as any
pub record IsCheapest (w : Weights) (m : List Entry) (start len : ℕ) (tree : Tree) : Type 0 where
  pub denotes : Denotes tree (entry_at m start).disp (segment m start len)
  pub tidy : IsTidy tree
  pub least : IsLeastOf (IsTreeCost w m start len) (cost_of w tree)

-- a tidy tree of which a segment is a block; where the block is one copy, no stacked blocks are as cheap
pub record IsCheapestBlock (w : Weights) (m : List Entry) (start len copies : ℕ) (tree : Tree) : Type 0 where
  pub some : 1 ≤ copies
  pub is : IsTree tree
  pub stands : shift (entry_at m start).disp (run copies (flat tree)) ≡ segment m start len
  pub tidy : IsTidy tree
  pub least : IsLeastOf (IsBlockCost w m start len) (cost_of w tree)
  pub longest :
      copies ≡ 1 → (block count cost : ℕ) → count * block ≡ len → 1 < count → AreStacked m start block count → IsTreeCost w m start block cost → cost_of w tree < cost

-- the length of the first part of the cheapest parts of a segment, where it has at most so many entries, and the least such length. What
-- comes after it costs the rest.
pub record IsFirstPart (w : Weights) (m : List Entry) (start len most first : ℕ) : Type 0 where
  pub some : 1 ≤ first
  pub within : first ≤ most
  pub rest : ℕ
  pub rest_least : IsLeastOf (IsPartsCost w m (start + first) (len - first) (len - first)) rest
  pub least : (one cost : ℕ) → IsLeastOf (IsBlockCost w m start first) one → IsPartsCost w m start len most cost → w.part + one + rest ≤ cost
  pub shortest : (one cost : ℕ) → IsLeastOf (IsBlockCost w m start first) one → IsPartsCost w m start len (first - 1) cost → w.part + one + rest < cost

-- what parts cost whose first one has so many entries
pub record IsPrice (w : Weights) (m : List Entry) (start len first price : ℕ) : Type 0 where
  pub one : ℕ
  pub rest : ℕ
  pub one_least : IsLeastOf (IsBlockCost w m start first) one
  pub rest_least : IsLeastOf (IsPartsCost w m (start + first) (len - first) (len - first)) rest
  pub sum : price ≡ w.part + one + rest
