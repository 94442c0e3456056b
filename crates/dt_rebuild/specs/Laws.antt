use Rattle.std.specs.Prelude.{◌≡◌, Option, Some, ◌≤◌, ◌<◌, ◌^◌, ◌-ℤ◌, ◌≤ℤ◌, ℤ, pos, List, length}
use Rattle.std.specs.List.{AllByRecursion}
use Rattle.dt_map.specs.declared.entry.Entry.{Entry}
use Rattle.dt_map.specs.Bounds.{true_lb, true_ub, natural_ub}
use Rattle.dt_map.specs.Limits.{IsInRange}
use Rattle.dt_offsets.specs.declared.marks.Marks.{Marks}
use Rattle.dt_type.specs.Datatype.{typemap_of, weight_of, depth_of}
use Rattle.dt_tree.specs.Tidy.{IsTidy}
use Rattle.dt_tree.specs.Tree.{Tree, flat, IsTree, Denotes}
use Rattle.dt_rebuild.specs.Answer.{IsTaken}
use Rattle.dt_rebuild.specs.Built.{type_of_tree, built, placed_by, all_forms}

-- the datatype that is built from a tree has the tree's entries from the base on, and the marks that are given; without a tree it has no entries
abbrev pub BuiltHasEntries : Type 0
BuiltHasEntries = (base : ℤ) (tree : Option Tree) (marks : Option Marks) → typemap_of (built base tree marks) ≡ placed_by base tree marks

-- the datatype of a tidy tree of at most 1,024 entries is at most 21 deep
abbrev pub TidyIsShallow : Type 0
TidyIsShallow = (tree : Tree) → IsTree tree → IsTidy tree → length (flat tree) ≤ 1024 → depth_of (type_of_tree tree) ≤ 21

-- and weighs less than 5,000
abbrev pub TidyIsLight : Type 0
TidyIsLight = (tree : Tree) → IsTree tree → IsTidy tree → length (flat tree) ≤ 1024 → weight_of (type_of_tree tree) < 5000

-- entries whose datatype, without marks, is in range by far
pub record AreNarrow (entries : List Entry) : Type 0 where
  pub few : length entries ≤ 1024
  pub span : (true_ub entries -ℤ true_lb entries) ≤ℤ pos (2 ^ 59)
  pub natural : natural_ub entries ≤ℤ pos (2 ^ 60)

-- no constructor refuses that makes the datatype of a tidy tree, where the tree stands for the entries of a datatype in range with these marks
abbrev pub TidyIsTaken : Type 0
TidyIsTaken =
    (base : ℤ) (tree : Tree) (marks : Option Marks) (entries : List Entry) → Denotes tree base entries → IsTidy tree → IsInRange (record { entries = entries; marks = marks }) → AreNarrow entries
    → AllByRecursion IsTaken (all_forms base (Some tree) marks)
