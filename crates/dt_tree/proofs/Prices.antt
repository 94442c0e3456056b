-- what trees cost fits 64 bits
use Rattle.std.proofs.Common.{ℕ, ◌*◌, ◌≤◌, length, arith}
use Rattle.std.proofs.Math.Nat.{mul-le-mul_right}
use Rattle.dt_tree.specs.Weights.{Weights, AreLight}
use Rattle.dt_tree.specs.Tree.{Tree, leaf, vector, index, group, Parts, no_parts, part}
use Rattle.dt_tree.specs.Cost.{cost_of, cost_of_parts}
use Rattle.dt_tree.specs.Rule.{words_of, words_of_parts}

product_le : (a b n : ℕ) → a ≤ b → a * n ≤ b * n
product_le a b n le = mul-le-mul_right n le

mutual
  pub cost_le : (w : Weights) (tree : Tree) → AreLight w → cost_of w tree ≤ 1000000 * words_of tree
  cost_le w (leaf kind) light = omega (arith, light)
  cost_le w (vector count block stride child) light = omega (arith, light, cost_le w child light)
  cost_le w (index block places child) light = omega (arith, light, cost_le w child light, product_le w.place 1000000 (length places) (omega (arith, light)))
  cost_le w (group parts) light = omega (arith, light, parts_cost_le w parts light)

  parts_cost_le : (w : Weights) (parts : Parts) → AreLight w → cost_of_parts w parts ≤ 1000000 * words_of_parts parts
  parts_cost_le w no_parts light = omega arith
  parts_cost_le w (part block disp child rest) light = omega (arith, light, cost_le w child light, parts_cost_le w rest light)
