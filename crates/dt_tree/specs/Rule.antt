use Rattle.std.specs.Prelude.{ℕ, ◌+◌, ◌≤◌, Bool, true, ◌&&◌, nat_le, IsTrue, max, ℤ, nat_abs, List, length}
use Rattle.std.specs.List.{list_all}
use Rattle.dt_map.specs.declared.entry.Entry.{Entry}
use Rattle.dt_map.specs.Bounds.{true_lb, true_ub}
use Rattle.dt_tree.specs.Tree.{Tree, leaf, vector, index, group, Parts, no_parts, part, flat, IsWithin}

-- counts, block lengths and lengths of lists
abbrev pub is_count : ℕ → Bool
is_count n = nat_le 1 n && nat_le n 1024

-- strides, places and displacements: at most 2^61 in absolute value
abbrev pub is_step : ℤ → Bool
is_step x = nat_le (nat_abs x) 2305843009213693952

abbrev pub part_count : Parts → ℕ
part_count no_parts = 0
part_count (part block disp child rest) = 1 + part_count rest

-- whether all numbers of a tree are within their limits
abbrev mutual
  pub numbers_fit : Tree → Bool
  numbers_fit (leaf kind) = true
  numbers_fit (vector count block stride child) = is_count count && (is_count block && (is_step stride && numbers_fit child))
  numbers_fit (index block places child) = is_count block && (is_count (length places) && (list_all is_step places && numbers_fit child))
  numbers_fit (group parts) = is_count (part_count parts) && parts_fit parts

  pub parts_fit : Parts → Bool
  parts_fit no_parts = true
  parts_fit (part block disp child rest) = is_count block && (is_step disp && (numbers_fit child && parts_fit rest))

-- how many nodes deep a tree is
abbrev mutual
  pub depth_of : Tree → ℕ
  depth_of (leaf kind) = 1
  depth_of (vector count block stride child) = 1 + depth_of child
  depth_of (index block places child) = 1 + depth_of child
  depth_of (group parts) = 1 + depth_of_parts parts

  pub depth_of_parts : Parts → ℕ
  depth_of_parts no_parts = 0
  depth_of_parts (part block disp child rest) = max (depth_of child) (depth_of_parts rest)

-- how many nodes, places and parts it has together
abbrev mutual
  pub words_of : Tree → ℕ
  words_of (leaf kind) = 1
  words_of (vector count block stride child) = 1 + words_of child
  words_of (index block places child) = 1 + length places + words_of child
  words_of (group parts) = 1 + words_of_parts parts

  pub words_of_parts : Parts → ℕ
  words_of_parts no_parts = 0
  words_of_parts (part block disp child rest) = 1 + words_of child + words_of_parts rest

-- true bounds of at most 2^80 in absolute value
pub record IsShort (es : List Entry) : Type 0 where
  pub from : nat_abs (true_lb es) ≤ 1208925819614629174706176
  pub to : nat_abs (true_ub es) ≤ 1208925819614629174706176

-- whether a tree and each subtree is short, node by node (law `short_subtrees`)
abbrev mutual
  pub AreShort : Tree → Type 0
  AreShort (leaf kind) = Unit {0}
  AreShort (vector count block stride child) = IsShort (flat (vector count block stride child)) × AreShort child
  AreShort (index block places child) = IsShort (flat (index block places child)) × AreShort child
  AreShort (group parts) = IsShort (flat (group parts)) × PartsShort parts

  pub PartsShort : Parts → Type 0
  PartsShort no_parts = Unit {0}
  PartsShort (part block disp child rest) = AreShort child × PartsShort rest

-- the rule of the trees that a program takes
pub record FollowsRule (tree : Tree) : Type 0 where
  pub numbers : IsTrue (numbers_fit tree)
  pub shallow : depth_of tree ≤ 64
  pub small : words_of tree ≤ 131072
  pub short : (node : Tree) → IsWithin node tree → IsShort (flat node)
