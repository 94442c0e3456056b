use Rattle.std.specs.Prelude.{◌≡◌, ◌↔◌, ℕ, ◌+◌, ◌*◌, ◌≤◌, ◌<◌, ◌+ℤ◌, ℤ, pos, IsTrue, List, length}
use Rattle.dt_map.specs.declared.entry.Entry.{Entry}
use Rattle.dt_map.specs.Typemap.{shift}
use Rattle.dt_map.specs.Alike.{segment, first_disp, are_stacked}
use Rattle.dt_tree.specs.Rule.{IsShort, AreShort, FollowsRule}
use Rattle.dt_tree.specs.Tidy.{IsTidy}
use Rattle.dt_tree.specs.Tree.{Tree, flat, IsTree, Denotes, IsBlockIn, IsWithin}

-- each tree places an entry
abbrev pub PlacesAnEntry : Type 0
PlacesAnEntry = (tree : Tree) → IsTree tree → 0 < length (flat tree)

-- a tree that stands for entries stands for them further on, from as much further on
abbrev pub DenotesFurther : Type 0
DenotesFurther = (tree : Tree) (base x : ℤ) (m : List Entry) → Denotes tree base m → Denotes tree (base +ℤ x) (shift x m)

-- each subtree of a tree that stands for entries stands for a segment of them, from some base on
abbrev pub SubtreesDenote : Type 0
SubtreesDenote =
    (tree node : Tree) (base : ℤ) (m : List Entry) → Denotes tree base m → IsWithin node tree
    → (start : ℕ) × (y : ℤ) × (start + length (flat node) ≤ length m) × Denotes node y (segment m start (length (flat node)))

-- and where it stands in a block, the copies of this block are stacked
abbrev pub BlocksAreStacked : Type 0
BlocksAreStacked =
    (tree node : Tree) (n : ℕ) (base : ℤ) (m : List Entry) → Denotes tree base m → IsBlockIn n node tree
    → (start : ℕ) × (y : ℤ) × (start + n * length (flat node) ≤ length m) × Denotes node y (segment m start (length (flat node)))
    × IsTrue (are_stacked m start (length (flat node)) n)

-- the true bounds are short node by node exactly where those of each subtree are
abbrev pub ShortSubtrees : Type 0
ShortSubtrees = (tree : Tree) → AreShort tree ↔ ((node : Tree) → IsWithin node tree → IsShort (flat node))

-- a tree that follows the rule of programs' trees is a tree
abbrev pub RuleIsTree : Type 0
RuleIsTree = (tree : Tree) → FollowsRule tree → IsTree tree

-- the first entry of a tidy tree stands at 0
abbrev pub TidyBeginsAtZero : Type 0
TidyBeginsAtZero = (tree : Tree) → IsTree tree → IsTidy tree → first_disp (flat tree) ≡ pos 0
