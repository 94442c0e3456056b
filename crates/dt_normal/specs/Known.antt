use Rattle.std.specs.Prelude.{◌≡◌, ℕ, suc, ◌+◌, ◌-◌, ◌≤◌, ◌<◌, min, List, length, slice_index, slice_index_or}
use Rattle.std.specs.Global.{Vec}
use Rattle.dt_map.specs.declared.entry.Entry.{Entry}
use Rattle.dt_tree.specs.Weights.{Weights}
use Rattle.dt_normal.specs.declared.cell.Cell.{Cell}
use Rattle.dt_normal.specs.declared.row.Row.{Row}
use Rattle.dt_normal.specs.Costs.{IsLeastOf, IsTreeCost, IsBlockCost, IsPartsCost}
use Rattle.dt_normal.specs.Splits.{AreBlockLengths}

-- a list of the least costs of the segments of one start, the shorter first
pub record AreLeast (Costs : ℕ → ℕ → Type 0) (most : ℕ) (costs : List ℕ) : Type 0 where
  pub each : length costs ≡ most
  pub least : (k : ℕ) → k < most → IsLeastOf (Costs (suc k)) (slice_index costs k)

-- the least costs of a segment
pub record IsCell (w : Weights) (m : List Entry) (start len : ℕ) (cell : Cell) : Type 0 where
  pub tree : IsLeastOf (IsTreeCost w m start len) cell.tree
  pub block : IsLeastOf (IsBlockCost w m start len) cell.block
  pub parts : IsLeastOf (IsPartsCost w m start len len) cell.parts

-- the least costs of the segments of one start up to a length
pub record AreKnown (w : Weights) (m : List Entry) (start most : ℕ) (row : Row) : Type 0 where
  pub trees : AreLeast (IsTreeCost w m start) most row.trees.items
  pub blocks : AreLeast (IsBlockCost w m start) most row.blocks.items
  pub parts : AreLeast (λ len. IsPartsCost w m start len len) most row.parts.items

-- of all segments of one start
abbrev pub IsRow : Weights → List Entry → ℕ → Row → Type 0
IsRow w m start row = AreKnown w m start (length m - start) row

-- the rows of the last starts, the last one first
pub record AreRows (w : Weights) (m : List Entry) (rows : List Row) : Type 0 where
  pub few : length rows ≤ length m
  pub row : (k : ℕ) (other : Row) → k < length rows → IsRow w m (length m - suc k) (slice_index_or rows k other)

-- the least costs of the groups of longer segments of a start, where the first part has at most so many entries; the shorter segments
-- first, from two entries on
pub record AreGroups (w : Weights) (m : List Entry) (start most : ℕ) (costs : List ℕ) : Type 0 where
  pub each : start + 1 + length costs ≡ length m
  pub least : (k : ℕ) → most ≤ suc k → k < length costs → IsLeastOf (IsPartsCost w m start (suc (suc k)) most) (slice_index costs k)

-- the lengths of the blocks that segments are made of, for each length up to one, the shorter first
pub record AreBlockLists (most : ℕ) (lists : List (Vec ℕ)) : Type 0 where
  pub each : length lists ≡ most
  pub parts : (k : ℕ) (other : Vec ℕ) → k < most → AreBlockLengths (suc k) (slice_index_or lists k other).items

-- the last costs of a list, each the lesser of what it was and of a price with what comes after it
pub record IsLowered (from price : ℕ) (after before now : List ℕ) : Type 0 where
  pub each : length now ≡ length before
  pub lowered : (k : ℕ) → k < length after → slice_index now (from + k) ≡ min (slice_index before (from + k)) (price + slice_index after k)
