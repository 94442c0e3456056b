use Rattle.std.specs.Prelude.{◌≡◌, ℕ, ◌+◌, ◌-◌, ◌≤◌, ◌<◌, min, List, length, slice_index}
use Rattle.std.specs.Global.{Vec}
use Rattle.std.specs.List.{All, sum}
use Rattle.dt_map.specs.declared.entry.Entry.{Entry}
use Rattle.dt_tree.specs.Weights.{Weights}
use Rattle.dt_normal.specs.Costs.{IsLeastOf}
use Rattle.dt_normal.specs.Splits.{IsLowest, alone}
use Rattle.dt_normal.specs.Table.{Table, IsSegment, least_run, cut_cost}
use Rattle.dt_check.specs.declared.blocks.Split.TheVariants.{Alike, Even, Stacked}
use Rattle.dt_check.specs.declared.level.Bound.{Bound}
use Rattle.dt_check.specs.declared.level.Tested.{Tested}
use Rattle.dt_check.specs.declared.level.Tested.TheVariants.{Holds, Fails}
use Rattle.dt_check.specs.declared.sums.Level.{Level}
use Rattle.dt_check.specs.declared.sums.Sums.{Sums}
use Rattle.dt_check.specs.Blocks.{IsSplit, split_cost}
use Rattle.dt_check.specs.Failing.{HoldsAt}
use Rattle.dt_check.specs.Rows.{AreRows, table_in}

-- what some cut of a segment comes to
abbrev pub IsCutCost : Weights → List Entry → Table → ℕ → ℕ → ℕ → Type 0
IsCutCost w m low start len cost = (cut : List ℕ) × All (λ n. 0 < n) cut × (sum cut ≡ len) × (cut_cost w m low start cut ≡ cost)

-- rows for the lengths up to one
pub record AreLengths (m : List Entry) (most : ℕ) (rows : List (Vec ℕ)) : Type 0 where
  pub shape : AreRows (length m) rows
  pub each : length rows ≡ most

-- what is known of the segments up to a length, at each of which the table holds
pub record AreKnown (w : Weights) (m : List Entry) (low : Table) (most : ℕ) (sums : Sums) : Type 0 where
  pub low_rows : AreLengths m most sums.lows.items
  pub run_rows : AreLengths m most sums.runs.items
  pub cut_rows : AreLengths m most sums.cuts.items
  pub lows : (start len : ℕ) → IsSegment m start len → len ≤ most → table_in sums.lows.items start len ≡ low start len
  pub runs : (start len : ℕ) → IsSegment m start len → len ≤ most → table_in sums.runs.items start len ≡ least_run m low start len
  pub cuts : (start len : ℕ) → IsSegment m start len → len ≤ most → IsLeastOf (IsCutCost w m low start len) (table_in sums.cuts.items start len)
  pub holds : (start len : ℕ) → IsSegment m start len → len ≤ most → HoldsAt w m low start len

-- what a segment's value may be at most, from the least sum over its cuts into two parts and the numbers of shorter segments
pub record IsBound (w : Weights) (m : List Entry) (start len parts : ℕ) (sums : Sums) (bound : Bound) : Type 0 where
  pub one : len ≡ 1 → (bound.most ≡ w.leaf) × (bound.stacked ≡ w.leaf)
  pub more : 2 ≤ len → (index : ℕ) × (vector : ℕ)
      × IsLowest (IsSplit Alike m start len) (split_cost w Alike sums.runs.items start len) (w.group + w.part + parts) index
      × IsLowest (IsSplit Even m start len) (split_cost w Even sums.runs.items start len) index vector
      × IsLowest (IsSplit Stacked m start len) (split_cost w Stacked sums.lows.items start len) vector bound.stacked
      × (bound.most ≡ min vector (alone w + bound.stacked))

-- what is known of the first segments of one length, by their starts
pub record IsKnownLevel (w : Weights) (m : List Entry) (low : Table) (len count : ℕ) (level : Level) : Type 0 where
  pub low_count : length level.lows.items ≡ count
  pub run_count : length level.runs.items ≡ count
  pub cut_count : length level.cuts.items ≡ count
  pub lows : (k : ℕ) → k < count → slice_index level.lows.items k ≡ low k len
  pub runs : (k : ℕ) → k < count → slice_index level.runs.items k ≡ least_run m low k len
  pub cuts : (k : ℕ) → k < count → IsLeastOf (IsCutCost w m low k len) (slice_index level.cuts.items k)
  pub holds : (k : ℕ) → k < count → HoldsAt w m low k len

-- whether a table holds at all segments of one length
abbrev pub IsTested : Weights → List Entry → Table → ℕ → Tested → Type 0
IsTested w m low len (Holds level) = IsKnownLevel w m low len (length m + 1 - len) level
IsTested w m low len (Fails start) = (start + len ≤ length m) × (¬ HoldsAt w m low start len) × ((k : ℕ) → k < start → HoldsAt w m low k len)
