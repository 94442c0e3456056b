-- the least costs of a segment, from those of shorter ones
use Rattle.std.proofs.Common.{◌≡◌, ◌⊎◌, inl, inr, ℕ, zero, suc, ◌+◌, ◌-◌, ◌*◌, ◌/◌, ◌%◌, ◌≤◌, ◌<◌, min, true, List, length, get_or, refl, sym, ap, ◌∙◌, subst, arith}
use Rattle.std.proofs.lemmas.Bool.{cases_lt}
use Rattle.std.proofs.Math.Nat.{mul-div_cancel, mul-mod_left, mod-add-div}
use Rattle.dt_map.specs.declared.entry.Entry.{Entry}
use Rattle.dt_map.specs.Alike.{are_alike, rise_by, are_stacked}
use Rattle.dt_tree.specs.Weights.{Weights, AreLight}
use Rattle.dt_normal.specs.declared.cell.Cell.{Cell}
use Rattle.dt_normal.specs.declared.row.Row.{Row}
use Rattle.dt_normal.specs.declared.split.Split.TheVariants.{Alike, Even, Stacked}
use Rattle.dt_normal.specs.Costs.{IsLeastOf, IsTreeCost, IsBlockCost, IsPartsCost}
use Rattle.dt_normal.specs.Known.{AreLeast, AreKnown, IsCell}
use Rattle.dt_normal.specs.Splits.{IsBlockLength, IsSplit, IsLowest, split_cost, alone, AreFew}
use Rattle.dt_normal.proofs.Standing.{leaf_cost, even_cost, alike_cost, stacked_cost, block_of_tree, vector_of_block, index_of_block, group_of_parts, part_of_block, parts_of_block, fewer_first, leaves_cost}
use Rattle.dt_normal.proofs.Lower.{AtMost, tree_bound, block_bound, parts_bound}

times : (n a b : ℕ) → a ≤ b → n * a ≤ n * b
times zero a b le = omega arith
times (suc n) a b le = omega (arith, le, times n a b le)

-- least costs are bounded, since a leaf for each entry will do
pub parts_few : (w : Weights) (m : List Entry) (start len most cost : ℕ) → AreLight w → start + len ≤ length m → 1 ≤ most
    → IsLeastOf (IsPartsCost w m start len most) cost → cost ≤ len * 2000000
parts_few w m start len most cost light inside some least =
    omega (arith, least.1 (len * (w.part + w.leaf)) (fewer_first w m start len 1 most _ some (leaves_cost w m start len inside)), times len (w.part + w.leaf) 2000000 (omega (arith, light)))

leaf_group : (w : Weights) (m : List Entry) (start len : ℕ) → start + len ≤ length m → 0 < len → IsTreeCost w m start len (w.group + len * (w.part + w.leaf))
leaf_group w m start len inside some = group_of_parts w m start len 1 _ some inside (leaves_cost w m start len inside)

tree_few : (w : Weights) (m : List Entry) (start len cost : ℕ) → AreLight w → start + len ≤ length m → 0 < len
    → IsLeastOf (IsTreeCost w m start len) cost → cost ≤ 1000000 + len * 2000000
tree_few w m start len cost light inside some least =
    omega (arith, light, least.1 _ (leaf_group w m start len inside some), times len (w.part + w.leaf) 2000000 (omega (arith, light)))

-- what known costs say of a length
pub known_at : (Costs : ℕ → ℕ → Type 0) (most n : ℕ) (costs : List ℕ) → AreLeast Costs most costs → 1 ≤ n → n ≤ most → IsLeastOf (Costs n) (get_or costs (n - 1) 0)
known_at Costs most zero costs are some within = absurd (omega arith)
known_at Costs most (suc k) costs are some within =
    let same : k ≡ suc k - 1 = omega arith in
    subst (λ j. IsLeastOf (Costs (suc k)) (get_or costs j 0)) same (are.least k (omega arith))

pub trees_few : (w : Weights) (m : List Entry) (start most : ℕ) (costs : List ℕ) → AreLight w → length m ≤ 1024 → start + most ≤ length m
    → AreLeast (IsTreeCost w m start) most costs → AreFew costs
trees_few w m start most costs light few inside are k lt =
    omega (arith, tree_few w m start (suc k) (get_or costs k 0) light (omega (arith, are.each)) (omega arith) (are.least k (omega (arith, are.each))))

pub block_few : (w : Weights) (m : List Entry) (start len cost : ℕ) → AreLight w → start + len ≤ length m → 0 < len
    → IsLeastOf (IsBlockCost w m start len) cost → cost ≤ 1000000 + len * 2000000
block_few w m start len cost light inside some least =
    omega (arith, light, least.1 _ (block_of_tree w m start len _ (leaf_group w m start len inside some)), times len (w.part + w.leaf) 2000000 (omega (arith, light)))

pub blocks_few : (w : Weights) (m : List Entry) (start most : ℕ) (costs : List ℕ) → AreLight w → length m ≤ 1024 → start + most ≤ length m
    → AreLeast (IsBlockCost w m start) most costs → AreFew costs
blocks_few w m start most costs light few inside are k lt =
    omega (arith, block_few w m start (suc k) (get_or costs k 0) light (omega (arith, are.each)) (omega arith) (are.least k (omega (arith, are.each))))

-- so many blocks of a length make up a segment
pub record Divided (len block count : ℕ) : Type 0 where
  pub whole : count * block ≡ len
  pub many : 1 < count

pub divided : (len block : ℕ) → IsBlockLength len block → Divided len block (len / block)
divided len block is =
    let whole : len / block * block ≡ len = by_rest is.2 in
    record { whole = whole; many = more (len / block) whole }
  where
    by_rest : len % block ≡ 0 → len / block * block ≡ len
    by_rest e = omega (arith, e, mod-add-div len block)

    more : (count : ℕ) → count * block ≡ len → 1 < count
    more zero e = absurd (omega (arith, e, is.0, is.1))
    more (suc zero) e = absurd (omega (arith, e, is.1))
    more (suc (suc n)) e = omega arith

pub is_block_length : (len block count : ℕ) → 0 < len → count * block ≡ len → 1 < count → IsBlockLength len block
is_block_length len zero count some e many = absurd (omega (arith, e))
is_block_length len (suc b) zero some e many = absurd (omega arith)
is_block_length len (suc b) (suc n) some e many =
    let rest : len % suc b ≡ 0 = ap (λ n. n % suc b) (sym e) ∙ mul-mod_left (suc n) (suc b) in
    (omega arith, fewer n e many, rest)
  where
    fewer : (n : ℕ) → suc n * suc b ≡ len → 1 < suc n → suc b < len
    fewer zero e many = absurd (omega arith)
    fewer (suc n) e many = omega (arith, e)

pub how_many : (len block count : ℕ) → 0 < block → count * block ≡ len → len / block ≡ count
how_many len block count some e = ap (λ n. n / block) (sym e) ∙ mul-div_cancel count some

-- the lesser of two numbers, and the least of some
lesser : (P : ℕ → Type 0) (a b n : ℕ) → n ≡ min a b → P a → P b → P n
lesser P a b n is h k =
    elim (cases_lt a b) [
      | inl less ↦ let same : a ≡ n = omega arith in subst P same h
      | inr from ↦ let same : b ≡ n = omega arith in subst P same k
    ]

lowest_is : (P Holds : ℕ → Type 0) (value : ℕ → ℕ) (most least : ℕ) → IsLowest Holds value most least → P most → ((n : ℕ) → Holds n → P (value n)) → P least
lowest_is P Holds value most least is h each =
    elim is.found [
      | inl same ↦ subst P (sym same) h
      | inr at ↦ subst P (sym at.2) (each at.0 at.1)
    ]

-- the numbers that a segment's least costs are found by
pub record IsFound (w : Weights) (m : List Entry) (start len few grouped index vector stacked : ℕ) (row : Row) : Type 0 where
  pub group : IsLeastOf (IsPartsCost w m start len (len - 1)) few
  pub joined : grouped ≡ w.group + few
  pub alike : IsLowest (IsSplit Alike m start len) (split_cost w Alike len row.blocks.items) grouped index
  pub even : IsLowest (IsSplit Even m start len) (split_cost w Even len row.blocks.items) index vector
  pub stack : IsLowest (IsSplit Stacked m start len) (split_cost w Stacked len row.trees.items) vector stacked

-- each of them is reached
vector_reached : (w : Weights) (m : List Entry) (start len few grouped index vector stacked : ℕ) (row : Row) → 2 ≤ len → start + len ≤ length m
    → AreKnown w m start (len - 1) row → IsFound w m start len few grouped index vector stacked row → IsTreeCost w m start len vector
vector_reached w m start len few grouped index vector stacked row long inside known is =
    let joined : IsTreeCost w m start len grouped = subst (IsTreeCost w m start len) (sym is.joined) (group_of_parts w m start len (len - 1) few (omega arith) inside is.group.0) in
    lowest_is (IsTreeCost w m start len) _ _ index vector is.even (lowest_is (IsTreeCost w m start len) _ _ grouped index is.alike joined alike) even
  where
    alike : (n : ℕ) → IsSplit Alike m start len n → IsTreeCost w m start len (split_cost w Alike len row.blocks.items n)
    alike n split =
        let part = divided len n split.0 in
        let block = known_at (IsBlockCost w m start) (len - 1) n row.blocks.items known.blocks split.0.0 (omega (arith, split.0.1)) in
        subst (λ l. IsTreeCost w m start l (split_cost w Alike len row.blocks.items n)) part.whole
        (alike_cost w m start n (len / n) (get_or row.blocks.items (n - 1) 0) (omega (arith, part.many)) split.1 block.0)

    even : (n : ℕ) → IsSplit Even m start len n → IsTreeCost w m start len (split_cost w Even len row.blocks.items n)
    even n split =
        let part = divided len n split.0 in
        let block = known_at (IsBlockCost w m start) (len - 1) n row.blocks.items known.blocks split.0.0 (omega (arith, split.0.1)) in
        subst (λ l. IsTreeCost w m start l (split_cost w Even len row.blocks.items n)) part.whole
        (even_cost w m start n (len / n) (get_or row.blocks.items (n - 1) 0) split.1.1.0 (omega (arith, part.many)) split.1.0 split.1.1.1 block.0)

-- the least of stacked blocks, or what went before
stacked_reached : (w : Weights) (m : List Entry) (start len few grouped index vector stacked : ℕ) (row : Row) → 2 ≤ len
    → AreKnown w m start (len - 1) row → IsFound w m start len few grouped index vector stacked row → (stacked ≡ vector) ⊎ IsBlockCost w m start len stacked
stacked_reached w m start len few grouped index vector stacked row long known is =
    elim is.stack.found [
      | inl same ↦ inl same
      | inr at ↦
          let n : ℕ = at.0 in
          let part = divided len n at.1.0 in
          let tree = known_at (IsTreeCost w m start) (len - 1) n row.trees.items known.trees at.1.0.0 (omega (arith, at.1.0.1)) in
          let h = stacked_cost w m start n (len / n) (get_or row.trees.items (n - 1) 0) (omega (arith, part.many)) at.1.1 tree.0 in
          inr (subst (λ l. IsBlockCost w m start l stacked) part.whole (subst (IsBlockCost w m start (len / n * n)) (sym at.2) h))
    ]

node_over_block : (w : Weights) (m : List Entry) (start len cost : ℕ) → 0 < len → start + len ≤ length m → IsBlockCost w m start len cost
    → IsTreeCost w m start len (alone w + cost)
node_over_block w m start len cost some inside h =
    lesser (IsTreeCost w m start len) (min (w.vector + cost) (w.index + w.place + cost)) (w.group + (w.part + cost)) (alone w + cost) (omega arith)
    (lesser (IsTreeCost w m start len) (w.vector + cost) (w.index + w.place + cost) _ refl (vector_of_block w m start len cost h) (index_of_block w m start len cost h))
    (group_of_parts w m start len len (w.part + cost) some inside (parts_of_block w m start len cost inside h))

tree_reached : (w : Weights) (m : List Entry) (start len few grouped index vector stacked tree : ℕ) (row : Row) → 2 ≤ len → start + len ≤ length m
    → AreKnown w m start (len - 1) row → IsFound w m start len few grouped index vector stacked row → tree ≡ min vector (alone w + stacked) → IsTreeCost w m start len tree
tree_reached w m start len few grouped index vector stacked tree row long inside known is lesser_of =
    let before = vector_reached w m start len few grouped index vector stacked row long inside known is in
    elim (stacked_reached w m start len few grouped index vector stacked row long known is) [
      | inl same ↦ let whole : vector ≡ tree = omega (arith, same, lesser_of) in subst (IsTreeCost w m start len) whole before
      | inr block ↦
          lesser (IsTreeCost w m start len) vector (alone w + stacked) tree lesser_of before (node_over_block w m start len stacked (omega arith) inside block)
    ]

block_reached : (w : Weights) (m : List Entry) (start len few grouped index vector stacked tree block : ℕ) (row : Row) → 2 ≤ len → start + len ≤ length m
    → AreKnown w m start (len - 1) row → IsFound w m start len few grouped index vector stacked row → tree ≡ min vector (alone w + stacked) → block ≡ min tree stacked
    → IsBlockCost w m start len block
block_reached w m start len few grouped index vector stacked tree block row long inside known is lesser_of least =
    let one = block_of_tree w m start len tree (tree_reached w m start len few grouped index vector stacked tree row long inside known is lesser_of) in
    elim (stacked_reached w m start len few grouped index vector stacked row long known is) [
      | inl same ↦ let whole : tree ≡ block = omega (arith, same, lesser_of, least) in subst (IsBlockCost w m start len) whole one
      | inr more ↦ lesser (IsBlockCost w m start len) tree stacked block least one more
    ]

-- and none is less
stacked_most : (w : Weights) (m : List Entry) (start len few grouped index vector stacked : ℕ) (row : Row) → 2 ≤ len
    → AreKnown w m start (len - 1) row → IsFound w m start len few grouped index vector stacked row
    → (size count cost : ℕ) → count * size ≡ len → 1 < count → are_stacked m start size count ≡ true → IsTreeCost w m start size cost → stacked ≤ cost
stacked_most w m start len few grouped index vector stacked row long known is size count cost whole many stand h =
    let part = is_block_length len size count (omega arith) whole many in
    let same : len / size ≡ count = how_many len size count (omega (arith, part.0)) whole in
    let tree = known_at (IsTreeCost w m start) (len - 1) size row.trees.items known.trees part.0 (omega (arith, part.1)) in
    omega (arith, is.stack.each size (part, subst (λ n. are_stacked m start size n ≡ true) (sym same) stand), tree.1 cost h)

tree_most : (w : Weights) (m : List Entry) (start len few grouped index vector stacked tree : ℕ) (row : Row) → 2 ≤ len → start + len ≤ length m
    → AreKnown w m start (len - 1) row → IsFound w m start len few grouped index vector stacked row → tree ≡ min vector (alone w + stacked) → AtMost w m start len tree
tree_most w m start len few grouped index vector stacked tree row long inside known is lesser_of =
    let falls : index ≤ grouped = is.alike.starts in
    let falls_on : vector ≤ index = is.even.starts in
    let joined = is.joined in
    let stacks = stacked_most w m start len few grouped index vector stacked row long known is in
    record {
      leaf = λ one. absurd (omega (arith, one));
      groups = λ cost h. omega (arith, is.group.1 cost h);
      alike = λ size count cost whole many stand h.
          let part = is_block_length len size count (omega arith) whole many in
          let same : len / size ≡ count = how_many len size count (omega (arith, part.0)) whole in
          let block = known_at (IsBlockCost w m start) (len - 1) size row.blocks.items known.blocks part.0 (omega (arith, part.1)) in
          let price : w.place * (len / size) ≡ w.place * count = ap (λ n. w.place * n) same in
          omega (arith, is.alike.each size (part, subst (λ n. are_alike m start size n ≡ true) (sym same) stand), block.1 cost h, price);
      even = λ size count cost step whole many stand rise h.
          let part = is_block_length len size count (omega arith) whole many in
          let same : len / size ≡ count = how_many len size count (omega (arith, part.0)) whole in
          let block = known_at (IsBlockCost w m start) (len - 1) size row.blocks.items known.blocks part.0 (omega (arith, part.1)) in
          omega (arith, is.even.each size (part, (subst (λ n. are_alike m start size n ≡ true) (sym same) stand, (step, subst (λ n. rise_by step m start size n ≡ true) (sym same) rise))), block.1 cost h);
      vector = λ size count cost whole many stand h. omega (arith, stacks size count cost whole many stand h);
      index = λ size count cost whole many stand h. omega (arith, stacks size count cost whole many stand h);
      part = λ size count cost whole many stand h. omega (arith, stacks size count cost whole many stand h);
    }

pub cell_is : (w : Weights) (m : List Entry) (start len few grouped index vector stacked : ℕ) (row : Row) (cell : Cell) → 2 ≤ len → start + len ≤ length m
    → AreKnown w m start (len - 1) row → IsFound w m start len few grouped index vector stacked row → cell.tree ≡ min vector (alone w + stacked) → cell.block ≡ min cell.tree stacked
    → cell.parts ≡ min few (w.part + cell.block) → IsCell w m start len cell
cell_is w m start len few grouped index vector stacked row cell long inside known is lesser_of least either =
    let tree = tree_reached w m start len few grouped index vector stacked cell.tree row long inside known is lesser_of in
    let block = block_reached w m start len few grouped index vector stacked cell.tree cell.block row long inside known is lesser_of least in
    let most = tree_most w m start len few grouped index vector stacked cell.tree row long inside known is lesser_of in
    record {
      tree = (tree, λ n h. tree_bound w m start len cell.tree n (omega arith) inside most h);
      block = (block, block_most most);
      parts = (
        lesser (IsPartsCost w m start len len) few (w.part + cell.block) cell.parts either (fewer_first w m start len (len - 1) len few (omega arith) is.group.0)
            (parts_of_block w m start len cell.block inside block),
        λ n h. parts_bound w m start len len cell.parts n (omega arith) inside (part_most (block_most most)) h,
      );
    }
  where
    block_most : AtMost w m start len cell.tree → (n : ℕ) → IsBlockCost w m start len n → cell.block ≤ n
    block_most most n h =
        block_bound w m start len cell.block n inside (λ c t. omega (arith, least, tree_bound w m start len cell.tree c (omega arith) inside most t))
        (λ size count c whole many stand t. omega (arith, least, stacked_most w m start len few grouped index vector stacked row long known is size count c whole many stand t)) h

    part_most : ((n : ℕ) → IsBlockCost w m start len n → cell.block ≤ n)
        → (k one rest : ℕ) → 0 < k → k ≤ len → k ≤ len → IsBlockCost w m start k one → IsPartsCost w m (start + k) (len - k) (len - k) rest → cell.parts ≤ w.part + one + rest
    part_most most k one rest some within short block after =
        elim (cases_lt k len) [
          | inl less ↦
              let whole : k + (len - k) ≡ len = omega arith in
              let all = part_of_block w m start k (len - k) (len - k) one rest (omega arith) block after in
              omega (arith, either, is.group.1 (w.part + one + rest) (fewer_first w m start len k (len - 1) (w.part + one + rest) (omega arith) (subst (λ l. IsPartsCost w m start l k (w.part + one + rest)) whole all)))
          | inr from ↦
              let same : k ≡ len = omega arith in
              omega (arith, either, most one (subst (λ l. IsBlockCost w m start l one) same block))
        ]

-- of one entry
pub first_cell_is : (w : Weights) (m : List Entry) (start : ℕ) (cell : Cell) → start + 1 ≤ length m → cell.tree ≡ w.leaf → cell.block ≡ w.leaf → cell.parts ≡ w.part + w.leaf
    → IsCell w m start 1 cell
first_cell_is w m start cell inside is_tree is_block are_parts =
    let leaf = leaf_cost w m start inside in
    record {
      tree = (subst (IsTreeCost w m start 1) (sym is_tree) leaf, λ n h. omega (arith, is_tree, most n h));
      block = (subst (IsBlockCost w m start 1) (sym is_block) (block_of_tree w m start 1 w.leaf leaf), λ n h. omega (arith, is_block, block_most n h));
      parts = (
        subst (IsPartsCost w m start 1 1) (sym are_parts) (parts_of_block w m start 1 w.leaf inside (block_of_tree w m start 1 w.leaf leaf)),
        λ n h. parts_bound w m start 1 1 cell.parts n (omega arith) inside part_most h,
      );
    }
  where
    no_more : (size count : ℕ) → count * size ≡ 1 → 1 < count → ⊥
    no_more zero count whole many = absurd (omega (arith, whole))
    no_more (suc size) zero whole many = absurd (omega arith)
    no_more (suc size) (suc zero) whole many = absurd (omega arith)
    no_more (suc size) (suc (suc n)) whole many = absurd (omega (arith, whole))

    bound : AtMost w m start 1 w.leaf
    bound = record {
      leaf = λ one. omega arith;
      groups = λ cost h. omega (arith, parts_bound w m start 1 0 w.leaf cost (omega arith) inside (λ k one rest some within short block after. absurd (omega arith)) h);
      alike = λ size count cost whole many stand h. absurd (no_more size count whole many);
      even = λ size count cost step whole many stand rise h. absurd (no_more size count whole many);
      vector = λ size count cost whole many stand h. absurd (no_more size count whole many);
      index = λ size count cost whole many stand h. absurd (no_more size count whole many);
      part = λ size count cost whole many stand h. absurd (no_more size count whole many);
    }

    most : (n : ℕ) → IsTreeCost w m start 1 n → w.leaf ≤ n
    most n h = tree_bound w m start 1 w.leaf n (omega arith) inside bound h

    block_most : (n : ℕ) → IsBlockCost w m start 1 n → w.leaf ≤ n
    block_most n h = block_bound w m start 1 w.leaf n inside most (λ size count c whole many stand t. absurd (no_more size count whole many)) h

    part_most : (k one rest : ℕ) → 0 < k → k ≤ 1 → k ≤ 1 → IsBlockCost w m start k one → IsPartsCost w m (start + k) (1 - k) (1 - k) rest → cell.parts ≤ w.part + one + rest
    part_most k one rest some within short block after =
        let same : k ≡ 1 = omega arith in
        omega (arith, are_parts, block_most one (subst (λ l. IsBlockCost w m start l one) same block))
