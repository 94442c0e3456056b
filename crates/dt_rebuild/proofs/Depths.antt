-- each two levels of a tidy tree halve the entries
use Rattle.std.proofs.Common.{◌≡◌, inl, inr, ℕ, zero, suc, ◌+◌, ◌*◌, ◌≤◌, ◌<◌, length, arith}
use Rattle.std.proofs.lemmas.Bool.{cases_lt}
use Rattle.dt_tree.specs.Rule.{depth_of, depth_of_parts}
use Rattle.dt_tree.specs.Tidy.{IsGroup, IsTidy, AreTidy}
use Rattle.dt_tree.specs.Tree.{Tree, leaf, vector, index, group, Parts, no_parts, part, flat, flat_parts, IsTree, AreTrees}
use Rattle.dt_tree.proofs.Subtrees.{places_an_entry}
use Rattle.dt_rebuild.specs.Built.{form_of_tree}
use Rattle.dt_rebuild.specs.Laws.{TidyIsShallow}
use Rattle.dt_rebuild.proofs.Measures.{as_deep, depth_is, vector_twice, index_twice, part_has, part_twice, plural_two}

-- 2 to the power of k
abbrev room : ℕ → ℕ
room zero = 1
room (suc k) = room k + room k

-- what has room: at most two levels for each halving, and one fewer where the tree is no group
abbrev Deep : Tree → Type 0
Deep tree = (k : ℕ) → length (flat tree) < room (suc k) → (depth_of tree ≤ 2 * k + 1) × ((IsGroup tree → ⊥) → 1 ≤ k → depth_of tree ≤ 2 * k)

-- two entries have no room in one place
beyond_one : (k n : ℕ) → 2 ≤ n → n < room (suc k) → 1 ≤ k
beyond_one zero n two lt = absurd (omega (arith, two, lt))
beyond_one (suc k) n two lt = omega arith

-- a tree above one with half as many entries
below : (child : Tree) → Deep child → 0 < length (flat child) → (k whole : ℕ) → length (flat child) + length (flat child) ≤ whole → whole < room (suc k) → depth_of child + 1 ≤ 2 * k
below child deep some zero whole twice lt = absurd (omega (arith, some, twice, lt))
below child deep some (suc k) whole twice lt = let h = (deep k (omega (arith, twice, lt))).0 in omega (arith, h)

mutual
  deep : (tree : Tree) → IsTree tree → IsTidy tree → Deep tree
  deep (leaf kind) ok tidy k lt = (omega arith, λ no some. omega arith)
  deep (vector count block stride child) ok tidy k lt =
      let twice = vector_twice count block stride child tidy.0 in
      let h = below child (deep child ok.2 tidy.2) (places_an_entry child ok.2) k (length (flat (vector count block stride child))) twice lt in
      (omega arith, λ no some. omega arith)
  deep (index block places child) ok tidy k lt =
      let twice = index_twice block places child tidy.0 in
      let h = below child (deep child ok.2 tidy.2) (places_an_entry child ok.2) k (length (flat (index block places child))) twice lt in
      (omega arith, λ no some. omega arith)
  deep (group parts) ok tidy k lt =
      let two = plural_two parts ok.1 tidy.0 in
      let h = deep_parts parts ok.1 tidy.2 k (beyond_one k (length (flat_parts parts)) two lt) lt in
      (omega arith, λ no some. absurd (no tt))

  -- each part of a group is one level less deep
  deep_parts : (parts : Parts) → AreTrees parts → AreTidy parts → (k : ℕ) → 1 ≤ k → length (flat_parts parts) < room (suc k) → depth_of_parts parts ≤ 2 * k
  deep_parts no_parts ok tidy k some lt = omega arith
  deep_parts (part block disp child rest) ok tidy k some lt =
      let has = part_has block disp child rest ok.0 in
      let others = deep_parts rest ok.2 tidy.2 k some (omega arith) in
      let here : depth_of child ≤ 2 * k = elim (cases_lt block 2) [
        | inl one ↦ (
            let single : block ≡ 1 = let positive = ok.0 in omega arith in
            (deep child ok.1 tidy.1 k (omega arith)).1 (tidy.0 single) some
            )
        | inr more ↦ (
            let twice = part_twice block disp child rest more in
            let h = below child (deep child ok.1 tidy.1) (places_an_entry child ok.1) k (length (flat_parts (part block disp child rest))) (omega arith) lt in
            omega arith
            )
      ] in
      omega arith

pub shallow_by : (tree : Tree) → IsTree tree → IsTidy tree → length (flat tree) ≤ 1024 → depth_of tree ≤ 21
shallow_by tree ok tidy few =
    let h = (deep tree ok tidy 10 (omega arith)).0 in
    omega arith

pub tidy_is_shallow : TidyIsShallow
tidy_is_shallow tree ok tidy few =
    let seen = depth_is (form_of_tree tree) in
    let same = as_deep tree in
    let h = shallow_by tree ok tidy few in
    omega arith
