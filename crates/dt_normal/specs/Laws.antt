use Rattle.std.specs.Prelude.{◌≡◌, ℕ, ◌*◌, ◌≤◌, ◌<◌, IsTrue, ℤ, List, length}
use Rattle.dt_map.specs.declared.entry.Entry.{Entry}
use Rattle.dt_map.specs.Alike.{segment, are_stacked}
use Rattle.dt_tree.specs.Weights.{Weights}
use Rattle.dt_tree.specs.Tree.{Tree, Denotes}
use Rattle.dt_tree.specs.Cost.{cost_of}
use Rattle.dt_tree.specs.Least.{IsLeast}
use Rattle.dt_normal.specs.Table.{Table, IsSegment, least_run, IsValid}

-- a valid table bounds every tree from below: whatever tree stands for a segment, from whatever base on, it costs no less than the
-- table says of the segment
abbrev pub TableBoundsTrees : Type 0
TableBoundsTrees =
    (w : Weights) (m : List Entry) (low : Table) → IsValid w m low
    → (start len : ℕ) (base : ℤ) (tree : Tree) → IsSegment m start len → Denotes tree base (segment m start len) → low start len ≤ cost_of w tree

-- so a tree that costs no more than a valid table says of the whole list is least
abbrev pub ReachedIsLeast : Type 0
ReachedIsLeast =
    (w : Weights) (m : List Entry) (low : Table) (base : ℤ) (tree : Tree) → IsValid w m low → Denotes tree base m
    → cost_of w tree ≤ low 0 (length m) → IsLeast w m base tree

-- the least run is no more than the value of the first block of any split into stacked blocks, and is that of one of them
abbrev pub LeastRunIsLeast : Type 0
LeastRunIsLeast =
    (m : List Entry) (low : Table) (start len : ℕ) → 0 < len
    → ((block count : ℕ) → count * block ≡ len → IsTrue (are_stacked m start block count) → least_run m low start len ≤ low start block)
    × ((block : ℕ) × (count : ℕ) × (count * block ≡ len) × IsTrue (are_stacked m start block count) × (least_run m low start len ≡ low start block))

-- a table that says more of a segment than some tree costs that stands for it is not valid
abbrev pub TooHighIsNotValid : Type 0
TooHighIsNotValid =
    (w : Weights) (m : List Entry) (low : Table) (start len : ℕ) (base : ℤ) (tree : Tree) → IsSegment m start len → Denotes tree base (segment m start len)
    → cost_of w tree < low start len → ¬ IsValid w m low
