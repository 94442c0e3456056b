use Rattle.std.specs.Prelude.{ℕ, ◌≤◌, max}

-- what the parts of trees cost: a leaf, a vector, an index, each of its places, a group, and each of its parts
pub record Weights : Type 0 where
  pub leaf : ℕ
  pub vector : ℕ
  pub index : ℕ
  pub place : ℕ
  pub group : ℕ
  pub part : ℕ

-- the six in this order
abbrev pub weights_of : ℕ → ℕ → ℕ → ℕ → ℕ → ℕ → Weights
weights_of leaf vector index place group part = record { leaf = leaf; vector = vector; index = index; place = place; group = group; part = part }

abbrev pub default_weights : Weights
default_weights = weights_of 1 3 2 1 2 2

-- the greatest of the six
abbrev pub heaviest : Weights → ℕ
heaviest w = max w.leaf (max w.vector (max w.index (max w.place (max w.group w.part))))

-- those that a program takes: each is at most 1,000,000
abbrev pub AreLight : Weights → Type 0
AreLight w = heaviest w ≤ 1000000
