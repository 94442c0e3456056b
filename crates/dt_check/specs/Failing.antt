use Rattle.std.specs.Prelude.{◌≡◌, ◌⊎◌, ℕ, ◌+◌, ◌*◌, ◌≤◌, ◌<◌, IsTrue, ℤ, List}
use Rattle.std.specs.List.{All, sum}
use Rattle.dt_map.specs.declared.entry.Entry.{Entry}
use Rattle.dt_map.specs.Alike.{are_alike, rise_by}
use Rattle.dt_tree.specs.Weights.{Weights}
use Rattle.dt_normal.specs.Table.{Table, IsSegment, least_run, cut_cost}

-- A table holds at a segment: its value is not above what one node could cost, over the values of the segments below it. A table is valid
-- where it holds at each segment (law `valid_everywhere`).
pub record HoldsAt (w : Weights) (m : List Entry) (low : Table) (start len : ℕ) : Type 0 where
  -- a leaf, where the segment is one entry
  pub leaf : len ≡ 1 → low start len ≤ w.leaf
  -- a group, for each cut into one or more parts that aren't empty
  pub cuts : (cut : List ℕ) → All (λ n. 0 < n) cut → sum cut ≡ len → low start len ≤ w.group + cut_cost w m low start cut
  -- an index, for each split into blocks that are alike
  pub alike : (block count : ℕ) → count * block ≡ len → IsTrue (are_alike m start block count) → low start len ≤ w.index + w.place * count + least_run m low start block
  -- a vector, where besides the first displacements of the blocks rise by one step
  pub even :
      (block count : ℕ) (step : ℤ) → count * block ≡ len → IsTrue (are_alike m start block count) → IsTrue (rise_by step m start block count)
      → low start len ≤ w.vector + least_run m low start block

-- one segment comes before another: it is shorter, or as long and with an earlier start
abbrev pub IsBefore : ℕ → ℕ → ℕ → ℕ → Type 0
IsBefore start len other size = (len < size) ⊎ ((len ≡ size) × (start < other))

-- the first segment at which a table doesn't hold
pub record IsFirstFailing (w : Weights) (m : List Entry) (low : Table) (start len : ℕ) : Type 0 where
  pub segment : IsSegment m start len
  pub fails : ¬ HoldsAt w m low start len
  pub first : (other size : ℕ) → IsSegment m other size → IsBefore other size start len → HoldsAt w m low other size
