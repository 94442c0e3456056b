use Rattle.std.specs.Prelude.{◌≡◌, ℕ, ◌≤◌, ◌<◌, ℤ, List, length}
use Rattle.dt_map.specs.declared.entry.Entry.{Entry}
use Rattle.dt_map.specs.Alike.{segment}
use Rattle.dt_map.specs.Runs.{run}
use Rattle.dt_map.specs.Typemap.{shift}
use Rattle.dt_tree.specs.Cost.{cost_of, cost_of_parts}
use Rattle.dt_tree.specs.Tree.{Tree, Parts, no_parts, part, flat, flat_parts, IsTree, AreTrees, Denotes}
use Rattle.dt_tree.specs.Weights.{Weights}

-- the least number of which something holds
abbrev pub IsLeastOf : (ℕ → Type 0) → ℕ → Type 0
IsLeastOf Holds least = Holds least × ((n : ℕ) → Holds n → least ≤ n)

-- what a tree costs that stands for a segment, from some base on
abbrev pub IsTreeCost : Weights → List Entry → ℕ → ℕ → ℕ → Type 0
IsTreeCost w m start len cost = (tree : Tree) × (base : ℤ) × Denotes tree base (segment m start len) × (cost_of w tree ≡ cost)

-- what a tree costs of which a segment is a block of copies
abbrev pub IsBlockCost : Weights → List Entry → ℕ → ℕ → ℕ → Type 0
IsBlockCost w m start len cost =
    (block : ℕ) × (tree : Tree) × (base : ℤ) × (0 < block) × IsTree tree × (shift base (run block (flat tree)) ≡ segment m start len) × (cost_of w tree ≡ cost)

-- how many entries the first part places
abbrev pub first_length : Parts → ℕ
first_length no_parts = 0
first_length (part block disp child rest) = length (run block (flat child))

-- what parts cost that stand for a segment, the first of them for at most so many entries
abbrev pub IsPartsCost : Weights → List Entry → ℕ → ℕ → ℕ → ℕ → Type 0
IsPartsCost w m start len most cost =
    (parts : Parts) × (base : ℤ) × AreTrees parts × (first_length parts ≤ most) × (shift base (flat_parts parts) ≡ segment m start len)
    × (cost_of_parts w parts ≡ cost)
