use Rattle.std.specs.Prelude.{◌≡◌, ◌⊎◌, ℕ, ◌+◌, ◌-◌, ◌*◌, ◌/◌, ◌%◌, ◌≤◌, ◌<◌, min, List, length, slice_index}
use Rattle.dt_map.specs.declared.entry.Entry.{Entry}
use Rattle.dt_alike.specs.Blocks.{AreAlike, AreEven, AreStacked}
use Rattle.dt_tree.specs.Weights.{Weights}
use Rattle.dt_normal.specs.declared.split.Split.{Split}
use Rattle.dt_normal.specs.declared.split.Split.TheVariants.{Alike, Even, Stacked}

-- a segment of a length is two or more blocks of another
abbrev pub IsBlockLength : ℕ → ℕ → Type 0
IsBlockLength len block = (1 ≤ block) × (block < len) × (len % block ≡ 0)

-- how so many blocks of one length stand, from a place on
abbrev pub Stand : Split → List Entry → ℕ → ℕ → ℕ → Type 0
Stand Alike m start block count = AreAlike m start block count
Stand Even m start block count = AreEven m start block count
Stand Stacked m start block count = AreStacked m start block count

-- a segment is two or more blocks that stand so
abbrev pub IsSplit : Split → List Entry → ℕ → ℕ → ℕ → Type 0
IsSplit split m start len block = IsBlockLength len block × Stand split m start block (len / block)

-- what a node over so many blocks costs, where a block costs so much: an index over alike ones, a vector over even ones, and for stacked
-- ones no node, since they are a block themselves
abbrev pub node_cost : Weights → Split → ℕ → ℕ → ℕ
node_cost w Alike count block = w.index + w.place * count + block
node_cost w Even count block = w.vector + block
node_cost w Stacked count block = block

-- the least of a number and of the values at those numbers of which something holds
pub record IsLowest (Holds : ℕ → Type 0) (value : ℕ → ℕ) (most least : ℕ) : Type 0 where
  pub starts : least ≤ most
  pub each : (n : ℕ) → Holds n → least ≤ value n
  pub found : (least ≡ most) ⊎ ((n : ℕ) × Holds n × (least ≡ value n))

-- the cost of a node over the blocks that a segment is split into, by the costs of the segments of its start, the shorter first
abbrev pub split_cost : Weights → Split → ℕ → List ℕ → ℕ → ℕ
split_cost w split len costs block = node_cost w split (len / block) (slice_index costs (block - 1))

-- the lengths of the blocks that a segment of a length is two or more of
pub record AreBlockLengths (len : ℕ) (lengths : List ℕ) : Type 0 where
  pub sound : (k : ℕ) → k < length lengths → IsBlockLength len (slice_index lengths k)
  pub whole : (block : ℕ) → IsBlockLength len block → (k : ℕ) × (k < length lengths) × (slice_index lengths k ≡ block)

-- the least weight of a node over one block
abbrev pub alone : Weights → ℕ
alone w = min (min w.vector (w.index + w.place)) (w.group + w.part)

-- costs that leave room for the weights of a node
abbrev pub AreFew : List ℕ → Type 0
AreFew costs = (k : ℕ) → k < length costs → slice_index costs k ≤ 2049000000
