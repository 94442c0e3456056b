use Rattle.std.specs.Prelude.{◌≡◌, ℕ, zero, suc, ◌+◌, ◌*◌, ◌/◌, ◌%◌, ◌≤◌, ◌<◌, ◌==◌, Bool, ◌&&◌, cond, IsTrue, min, ℤ, List, [], ◌∷◌, length}
use Rattle.std.specs.List.{All, sum}
use Rattle.dt_map.specs.declared.entry.Entry.{Entry}
use Rattle.dt_map.specs.Alike.{are_alike, rise_by, are_stacked}
use Rattle.dt_tree.specs.Weights.{Weights}

-- a number for each segment of a list of entries, by the segment's first place and its length
abbrev pub Table : Type 0
Table = ℕ → ℕ → ℕ

-- a segment that isn't empty
abbrev pub IsSegment : List Entry → ℕ → ℕ → Type 0
IsSegment m start len = (0 < len) × (start + len ≤ length m)

-- whether a segment is stacked blocks of one length, among them one block of the whole length
abbrev pub is_split : List Entry → ℕ → ℕ → ℕ → Bool
is_split m start len block = (len % block == 0) && are_stacked m start block (len / block)

-- the least of a number and of the values at those of 1 .. n that pass a test
abbrev pub least_to : (ℕ → Bool) → (ℕ → ℕ) → ℕ → ℕ → ℕ
least_to test value most zero = most
least_to test value most (suc n) = min (cond (test (suc n)) (value (suc n)) most) (least_to test value most n)

-- the least value of a first block, over all splits of a segment into one or more stacked blocks (law `least_run_is_least`)
abbrev pub least_run : List Entry → Table → ℕ → ℕ → ℕ
least_run m low start len = least_to (is_split m start len) (low start) (low start len) len

-- what the parts of a cut come to, from a place on: a part's weight and its least run, for each
abbrev pub cut_cost : Weights → List Entry → Table → ℕ → List ℕ → ℕ
cut_cost w m low start [] = 0
cut_cost w m low start (len ∷ cut) = w.part + least_run m low start len + cut_cost w m low (start + len) cut

-- A valid table: no value is above what one node could cost, over the values of the segments below it.
pub record IsValid (w : Weights) (m : List Entry) (low : Table) : Type 0 where
  -- a leaf, where the segment is one entry
  pub leaf : (start : ℕ) → IsSegment m start 1 → low start 1 ≤ w.leaf
  -- a group, for each cut into one or more parts that aren't empty
  pub cuts : (start len : ℕ) (cut : List ℕ) → IsSegment m start len → All (λ n. 0 < n) cut → sum cut ≡ len → low start len ≤ w.group + cut_cost w m low start cut
  -- an index, for each split into blocks that are alike
  pub alike :
      (start len block count : ℕ) → IsSegment m start len → count * block ≡ len → IsTrue (are_alike m start block count)
      → low start len ≤ w.index + w.place * count + least_run m low start block
  -- a vector, where besides the first displacements of the blocks rise by one step
  pub even :
      (start len block count : ℕ) (step : ℤ) → IsSegment m start len → count * block ≡ len → IsTrue (are_alike m start block count)
      → IsTrue (rise_by step m start block count) → low start len ≤ w.vector + least_run m low start block
