use Rattle.std.specs.Prelude.{ℕ, ◌+◌, ◌*◌, length}
use Rattle.dt_tree.specs.Weights.{Weights}
use Rattle.dt_tree.specs.Tree.{Tree, leaf, vector, index, group, Parts, no_parts, part}

-- what a tree costs: block lengths cost nothing
abbrev mutual
  pub cost_of : Weights → Tree → ℕ
  cost_of w (leaf kind) = w.leaf
  cost_of w (vector count block stride child) = w.vector + cost_of w child
  cost_of w (index block places child) = w.index + w.place * length places + cost_of w child
  cost_of w (group parts) = w.group + cost_of_parts w parts

  pub cost_of_parts : Weights → Parts → ℕ
  cost_of_parts w no_parts = 0
  cost_of_parts w (part block disp child rest) = w.part + cost_of w child + cost_of_parts w rest
