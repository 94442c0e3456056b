-- what no tree, block or parts of a segment cost less than
use Rattle.std.proofs.Common.{◌≡◌, inl, inr, ℕ, ◌+◌, ◌-◌, ◌*◌, ◌≤◌, ◌<◌, true, ℤ, ◌+ℤ◌, List, length, refl, sym, ap, ◌∙◌, arith, length-append}
use Rattle.std.proofs.lemmas.Bool.{cases_lt}
use Rattle.dt_map.specs.declared.entry.Entry.{Entry}
use Rattle.dt_map.specs.Typemap.{shift}
use Rattle.dt_map.specs.Runs.{placed_at, even, run}
use Rattle.dt_map.specs.Alike.{segment, are_alike, rise_by, are_stacked}
use Rattle.dt_map.proofs.Summaries.{length-shift}
use Rattle.dt_map.proofs.Seats.{Sits, sits_segment, segment_sits, sits_second, sits_at, sits_copy, length-placed_at, length-even, length-run}
use Rattle.dt_map.proofs.Stacks.{runs_stacked, copies_alike, copies_rise}
use Rattle.dt_tree.specs.Cost.{cost_of, cost_of_parts}
use Rattle.dt_tree.specs.Weights.{Weights}
use Rattle.dt_tree.specs.Tree.{Tree, leaf, vector, index, group, Parts, no_parts, part, flat, flat_parts, IsTree, AreTrees}
use Rattle.dt_tree.proofs.Subtrees.{places_an_entry, run-pos, first_of_run, part_block}
use Rattle.dt_normal.specs.Costs.{IsTreeCost, IsBlockCost, IsPartsCost, first_length}
use Rattle.dt_normal.proofs.Standing.{length-segment}

-- a number that no node on top of cheaper segments costs less than
pub record AtMost (w : Weights) (m : List Entry) (start len least : ℕ) : Type 0 where
  pub leaf : len ≡ 1 → least ≤ w.leaf
  pub groups : (cost : ℕ) → IsPartsCost w m start len (len - 1) cost → least ≤ w.group + cost
  pub alike : (block count cost : ℕ) → count * block ≡ len → 1 < count → are_alike m start block count ≡ true → IsBlockCost w m start block cost
      → least ≤ w.index + w.place * count + cost
  pub even : (block count cost : ℕ) (step : ℤ) → count * block ≡ len → 1 < count → are_alike m start block count ≡ true → rise_by step m start block count ≡ true
      → IsBlockCost w m start block cost → least ≤ w.vector + cost
  pub vector : (block count cost : ℕ) → count * block ≡ len → 1 < count → are_stacked m start block count ≡ true → IsTreeCost w m start block cost → least ≤ w.vector + cost
  pub index : (block count cost : ℕ) → count * block ≡ len → 1 < count → are_stacked m start block count ≡ true → IsTreeCost w m start block cost → least ≤ w.index + w.place + cost
  pub part : (block count cost : ℕ) → count * block ≡ len → 1 < count → are_stacked m start block count ≡ true → IsTreeCost w m start block cost → least ≤ w.group + w.part + cost

-- what sits has a cost
pub tree_sits : (w : Weights) (m : List Entry) (y : ℤ) (i len : ℕ) (tree : Tree) → IsTree tree → Sits m y (flat tree) i → length (flat tree) ≡ len → IsTreeCost w m i len (cost_of w tree)
tree_sits w m y i len tree is sits long = (tree, y, (is, sym (sits_segment sits) ∙ ap (segment m i) long), refl)

pub block_sits : (w : Weights) (m : List Entry) (y : ℤ) (i len block : ℕ) (tree : Tree) → 0 < block → IsTree tree → Sits m y (run block (flat tree)) i
    → length (run block (flat tree)) ≡ len → IsBlockCost w m i len (cost_of w tree)
block_sits w m y i len block tree some is sits long = (block, tree, y, some, is, sym (sits_segment sits) ∙ ap (segment m i) long, refl)

pub parts_sit : (w : Weights) (m : List Entry) (y : ℤ) (i len most : ℕ) (parts : Parts) → AreTrees parts → Sits m y (flat_parts parts) i → length (flat_parts parts) ≡ len
    → first_length parts ≤ most → IsPartsCost w m i len most (cost_of_parts w parts)
parts_sit w m y i len most parts are sits long first = (parts, y, are, first, sym (sits_segment sits) ∙ ap (segment m i) long, refl)

-- the first copy of a block, and the first block of copies
pub first_copy : (m : List Entry) (y : ℤ) (i block : ℕ) (es : List Entry) → Sits m y (run block es) i → 0 < block → (z : ℤ) × Sits m z es i
first_copy m y i block es sits some = (_, sits_at (i + 0 * length es) i (omega arith) (first_of_run m y i block es sits some))

pub first_place : (m : List Entry) (y : ℤ) (i : ℕ) (places : List ℤ) (es : List Entry) → Sits m y (placed_at places es) i → 0 < length places → (z : ℤ) × Sits m z es i
first_place m y i places es sits some = (_, sits_at (i + 0 * length es) i (omega arith) (sits_copy m y places es i 0 sits some))

one_times : (n k len : ℕ) → n ≡ 1 → n * k ≡ len → k ≡ len
one_times n k len one h =
    let e : 1 * k ≡ len = ap (λ a. a * k) (sym one) ∙ h in
    omega (arith, e)

-- a bound of what copies in one block cost
abbrev Under : Weights → List Entry → ℕ → ℕ → ℕ → ℕ → Tree → Type 0
Under w m start len least weight child = (y : ℤ) (block : ℕ) → 0 < block → Sits m y (run block (flat child)) start → length (run block (flat child)) ≡ len → least ≤ weight + cost_of w child

-- where one copy is bounded, and so are more
under : (w : Weights) (m : List Entry) (start len least weight : ℕ) (child : Tree) → IsTree child
    → ((y : ℤ) → Sits m y (flat child) start → length (flat child) ≡ len → least ≤ cost_of w child)
    → ((size count cost : ℕ) → count * size ≡ len → 1 < count → are_stacked m start size count ≡ true → IsTreeCost w m start size cost → least ≤ weight + cost)
    → Under w m start len least weight child
under w m start len least weight child is one more y block some sits long =
    let first = first_copy m y start block (flat child) sits some in
    let size : block * length (flat child) ≡ len = sym (length-run block (flat child)) ∙ long in
    elim (cases_lt 1 block) [
      | inl many ↦
          more (length (flat child)) block (cost_of w child) size many (runs_stacked m y block (flat child) start sits some (places_an_entry child is))
          (tree_sits w m first.0 start (length (flat child)) child is first.1 refl)
      | inr few ↦ omega (arith, one first.0 first.1 (one_times block (length (flat child)) len (omega arith) size))
    ]

-- no tree costs less
pub no_tree_less : (w : Weights) (m : List Entry) (start len least : ℕ) → 0 < len → AtMost w m start len least
    → (tree : Tree) → IsTree tree → (y : ℤ) → Sits m y (flat tree) start → length (flat tree) ≡ len → least ≤ cost_of w tree
no_tree_less w m start len least some bound (leaf kind) is y sits long = bound.leaf (sym long)
no_tree_less w m start len least some bound (vector count block stride child) is y sits long =
    let es = run block (flat child) in
    let places = even count stride in
    let few = length-even count stride in
    let held = run-pos block (flat child) is.1 (places_an_entry child is.2) in
    let first = first_place m y start places es sits (omega (arith, is.0, few)) in
    let whole : count * length es ≡ len = ap (λ n. n * length es) (sym few) ∙ (sym (length-placed_at places es) ∙ long) in
    elim (cases_lt 1 count) [
      | inl many ↦
          bound.even (length es) count (cost_of w child) stride whole many (ap (are_alike m start (length es)) (sym few) ∙ copies_alike m y places es start sits)
          (copies_rise m y count stride es start sits held) (block_sits w m first.0 start (length es) block child is.1 is.2 first.1 refl)
      | inr one ↦
          under w m start len least w.vector child is.2 (no_tree_less w m start len least some bound child is.2) bound.vector first.0 block is.1 first.1
          (one_times count (length es) len (omega (arith, is.0)) whole)
    ]
no_tree_less w m start len least some bound (index block places child) is y sits long =
    let es = run block (flat child) in
    let first = first_place m y start places es sits is.1 in
    let whole : length places * length es ≡ len = sym (length-placed_at places es) ∙ long in
    elim (cases_lt 1 (length places)) [
      | inl many ↦
          bound.alike (length es) (length places) (cost_of w child) whole many (copies_alike m y places es start sits)
          (block_sits w m first.0 start (length es) block child is.0 is.2 first.1 refl)
      | inr one ↦
          let single : length places ≡ 1 = omega (arith, is.1) in
          let place : w.place * length places ≡ w.place = ap (λ n. w.place * n) single ∙ omega arith in
          omega (
            arith,
            place,
            under w m start len least (w.index + w.place) child is.2 (no_tree_less w m start len least some bound child is.2) bound.index first.0 block is.0 first.1
                (one_times (length places) (length es) len single whole),
          )
    ]
no_tree_less w m start len least some bound (group no_parts) is y sits long = absurd is.0
no_tree_less w m start len least some bound (group (part block disp child rest)) is y sits long =
    let es = run block (flat child) in
    let all : length es + length (flat_parts rest) ≡ len = omega (arith, long, length-append (shift disp es) (flat_parts rest), length-shift disp es) in
    elim (cases_lt (length es) len) [
      | inl less ↦ bound.groups _ (parts_sit w m y start len (len - 1) (part block disp child rest) is.1 sits long (omega arith))
      | inr from ↦
          let here = part_block m y start block disp child rest sits in
          omega (arith, under w m start len least (w.group + w.part) child is.1.1 (no_tree_less w m start len least some bound child is.1.1) bound.part (disp +ℤ y) block is.1.0 here (omega arith))
    ]

pub tree_bound : (w : Weights) (m : List Entry) (start len least cost : ℕ) → 0 < len → start + len ≤ length m → AtMost w m start len least → IsTreeCost w m start len cost → least ≤ cost
tree_bound w m start len least cost some inside bound (tree, base, (is, same), costs) =
    let long : length (flat tree) ≡ len = sym (length-shift base (flat tree)) ∙ (ap length same ∙ length-segment m start len inside) in
    omega (arith, costs, no_tree_less w m start len least some bound tree is base (segment_sits m base (flat tree) start len inside (sym same)) long)

-- no block costs less, where its copies don't
pub block_bound : (w : Weights) (m : List Entry) (start len least cost : ℕ) → start + len ≤ length m → ((c : ℕ) → IsTreeCost w m start len c → least ≤ c)
    → ((size count c : ℕ) → count * size ≡ len → 1 < count → are_stacked m start size count ≡ true → IsTreeCost w m start size c → least ≤ c)
    → IsBlockCost w m start len cost → least ≤ cost
block_bound w m start len least cost inside one more (block, tree, base, some, is, same, costs) =
    let long : length (run block (flat tree)) ≡ len = sym (length-shift base (run block (flat tree))) ∙ (ap length same ∙ length-segment m start len inside) in
    omega (
      arith,
      costs,
      under w m start len least 0 tree is (λ y sits whole. one (cost_of w tree) (tree_sits w m y start len tree is sits whole)) copies base block some
          (segment_sits m base (run block (flat tree)) start len inside (sym same)) long,
    )
  where
    copies : (size count c : ℕ) → count * size ≡ len → 1 < count → are_stacked m start size count ≡ true → IsTreeCost w m start size c → least ≤ 0 + c
    copies size count c whole many stacked h = omega (arith, more size count c whole many stacked h)

-- no parts cost less, where a first part and the others after it don't
pub parts_bound : (w : Weights) (m : List Entry) (start len most least cost : ℕ) → 0 < len → start + len ≤ length m
    → ((k one rest : ℕ) → 0 < k → k ≤ most → k ≤ len → IsBlockCost w m start k one → IsPartsCost w m (start + k) (len - k) (len - k) rest → least ≤ w.part + one + rest)
    → IsPartsCost w m start len most cost → least ≤ cost
parts_bound w m start len most least cost some inside each (no_parts, base, are, first, same, costs) =
    absurd (omega (arith, some, ap length same, length-segment m start len inside))
parts_bound w m start len most least cost some inside each (part block disp child rest, base, are, first, same, costs) =
    let es = run block (flat child) in
    let whole : length (flat_parts (part block disp child rest)) ≡ len = sym (length-shift base (flat_parts (part block disp child rest))) ∙ (ap length same ∙ length-segment m start len inside) in
    let all : length es + length (flat_parts rest) ≡ len = omega (arith, whole, length-append (shift disp es) (flat_parts rest), length-shift disp es) in
    let sits = segment_sits m base (flat_parts (part block disp child rest)) start len inside (sym same) in
    let after = sits_at (start + length (shift disp es)) (start + length es) (omega (arith, length-shift disp es)) (sits_second (shift disp es) (flat_parts rest) sits) in
    let left : length (flat_parts rest) ≡ len - length es = omega arith in
    omega (
      arith,
      costs,
      each (length es) (cost_of w child) (cost_of_parts w rest) (run-pos block (flat child) are.0 (places_an_entry child are.1)) first (omega arith)
          (block_sits w m (disp +ℤ base) start (length es) block child are.0 are.1 (part_block m base start block disp child rest sits) refl)
          (parts_sit w m base (start + length es) (len - length es) (len - length es) rest are.2 after left (omega (arith, left, first_le rest))),
    )
  where
    first_le : (parts : Parts) → first_length parts ≤ length (flat_parts parts)
    first_le no_parts = omega arith
    first_le (part block disp child rest) = omega (arith, length-append (shift disp (run block (flat child))) (flat_parts rest), length-shift disp (run block (flat child)))
