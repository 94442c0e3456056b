-- The line of a tree.
use Rattle.std.specs.Prelude.{ℕ, Bool, true, ◌&&◌, nat_le, nat_abs, if◌then◌else◌, List, take, drop, Option, Some, None, codes, bytes_eq}
use Rattle.std.specs.Option.{option_and_then, option_map}
use Rattle.std.specs.Result.{result_ok}
use Rattle.dt_map.specs.declared.entry.Entry.{Entry}
use Rattle.dt_map.specs.Bounds.{true_lb, true_ub}
use Rattle.dt_tree.specs.Rule.{numbers_fit, depth_of, words_of}
use Rattle.dt_tree.specs.Tree.{Tree, leaf, vector, index, group, Parts, no_parts, part, flat}
use Rattle.dt_spelling.specs.Reading.{tree_at, where_true}
use Rattle.dt_spelling.specs.Spelling.{Word, words_in}

-- whether true bounds are at most 2^80 in absolute value
abbrev pub is_short : List Entry → Bool
is_short es = nat_le (nat_abs (true_lb es)) 1208925819614629174706176 && nat_le (nat_abs (true_ub es)) 1208925819614629174706176

abbrev mutual
  pub are_short : Tree → Bool
  are_short (leaf kind) = true
  are_short (vector count block stride child) = is_short (flat (vector count block stride child)) && are_short child
  are_short (index block places child) = is_short (flat (index block places child)) && are_short child
  are_short (group parts) = is_short (flat (group parts)) && parts_short parts

  pub parts_short : Parts → Bool
  parts_short no_parts = true
  parts_short (part block disp child rest) = are_short child && parts_short rest

-- whether a tree follows the rule of programs' trees
unfoldable pub follows_rule : Tree → Bool
follows_rule tree = numbers_fit tree && (nat_le (depth_of tree) 64 && (nat_le (words_of tree) 131072 && are_short tree))

-- the tree that a text spells
unfoldable pub tree_spelled : List ℕ → Option Tree
tree_spelled text = option_and_then (λ tree. where_true (follows_rule tree) tree) (result_ok (tree_at (words_in text)))

-- a tree, or `empty` for none
abbrev pub tree_or_empty : List ℕ → Option (Option Tree)
tree_or_empty text = if bytes_eq text (codes "empty") then Some None else option_map Some (tree_spelled text)

unfoldable pub tree_in : Word → Option (Option Tree)
tree_in line = if bytes_eq (take 5 line) (codes "tree ") then tree_or_empty (drop 5 line) else None
