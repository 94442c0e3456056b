-- how the cheapest trees are made
use Rattle.std.proofs.Common.{◌≡◌, ◌⊎◌, inl, inr, ℕ, suc, ◌+◌, ◌-◌, ◌*◌, ◌/◌, ◌≤◌, ◌<◌, true, List, length, get_or, Option, Some, None, MatchOption, unwrap_or, sym, ap, ◌∙◌, subst, arith}
use Rattle.std.proofs.lemmas.Bool.{cases_lt}
use Rattle.dt_map.specs.declared.entry.Entry.{Entry}
use Rattle.dt_map.specs.Alike.{are_alike, rise_by, are_stacked}
use Rattle.dt_tree.specs.Weights.{Weights}
use Rattle.dt_normal.specs.declared.form.Form.TheVariants.{Vectors, Indices, Block, Parts}
use Rattle.dt_normal.specs.declared.form.Wrap.{Wrap}
use Rattle.dt_normal.specs.declared.form.Wrap.TheVariants.{Vector, Index, Part}
use Rattle.dt_normal.specs.declared.row.Row.{Row}
use Rattle.dt_normal.specs.declared.split.Split.TheVariants.{Alike, Even, Stacked}
use Rattle.dt_normal.specs.Costs.{IsLeastOf, IsTreeCost, IsBlockCost, IsPartsCost}
use Rattle.dt_normal.specs.Forms.{IsForm, IsBlockAt, wrap_weight}
use Rattle.dt_normal.specs.Known.{IsRow}
use Rattle.dt_normal.specs.Splits.{IsSplit, split_cost}
use Rattle.dt_normal.proofs.Bounds.{one_block}
use Rattle.dt_normal.proofs.Standing.{even_cost, alike_cost, stacked_cost, vector_of_block, index_of_block, group_of_parts, parts_of_block}
use Rattle.dt_normal.proofs.Lower.{AtMost, tree_bound, block_bound}
use Rattle.dt_normal.proofs.Cells.{known_at, divided, is_block_length, how_many}
use Rattle.dt_normal.proofs.Validity.{least_is_one}

-- what a row says of a length, as code reads it
pub tree_in : (w : Weights) (m : List Entry) (start len : ℕ) (row : Row) → IsRow w m start row → 1 ≤ len → start + len ≤ length m
    → IsLeastOf (IsTreeCost w m start len) (get_or row.trees.items (len - 1) 0)
tree_in w m start len row is some inside = known_at (IsTreeCost w m start) (length m - start) len row.trees.items is.trees some (omega (arith, inside))

pub block_in : (w : Weights) (m : List Entry) (start len : ℕ) (row : Row) → IsRow w m start row → 1 ≤ len → start + len ≤ length m
    → IsLeastOf (IsBlockCost w m start len) (get_or row.blocks.items (len - 1) 0)
block_in w m start len row is some inside = known_at (IsBlockCost w m start) (length m - start) len row.blocks.items is.blocks some (omega (arith, inside))

-- blocks below nodes
pub vectors_form : (w : Weights) (m : List Entry) (start len block cost : ℕ) (row : Row) → IsRow w m start row → start + len ≤ length m → IsLeastOf (IsTreeCost w m start len) cost
    → IsSplit Even m start len block → split_cost w Even len row.blocks.items block ≡ cost → IsForm w m start len (Vectors block)
vectors_form w m start len block cost row is inside least split same = (
  split,
  λ n one.
      let price = least_is_one (IsBlockCost w m start block) n (get_or row.blocks.items (block - 1) 0) one (block_in w m start block row is split.0.0 (omega (arith, inside, split.0.1))) in
      let whole : cost ≡ w.vector + n = omega (arith, same, price) in
      subst (IsLeastOf (IsTreeCost w m start len)) whole least,
)

pub indices_form : (w : Weights) (m : List Entry) (start len block cost : ℕ) (row : Row) → IsRow w m start row → start + len ≤ length m → IsLeastOf (IsTreeCost w m start len) cost
    → IsSplit Alike m start len block → split_cost w Alike len row.blocks.items block ≡ cost → IsForm w m start len (Indices block)
indices_form w m start len block cost row is inside least split same = (
  split,
  λ n one.
      let price = least_is_one (IsBlockCost w m start block) n (get_or row.blocks.items (block - 1) 0) one (block_in w m start block row is split.0.0 (omega (arith, inside, split.0.1))) in
      let whole : cost ≡ w.index + w.place * (len / block) + n = omega (arith, same, price) in
      subst (IsLeastOf (IsTreeCost w m start len)) whole least,
)

pub block_form : (w : Weights) (m : List Entry) (start len block copies cost : ℕ) (wrap : Wrap) (row : Row) → IsRow w m start row → start + len ≤ length m
    → IsLeastOf (IsTreeCost w m start len) cost → IsSplit Stacked m start len block → split_cost w Stacked len row.trees.items block ≡ copies → wrap_weight w wrap + copies ≡ cost
    → IsForm w m start len (Block wrap block)
block_form w m start len block copies cost wrap row is inside least split same whole = (
  split,
  λ n one.
      let price = least_is_one (IsTreeCost w m start block) n (get_or row.trees.items (block - 1) 0) one (tree_in w m start block row is split.0.0 (omega (arith, inside, split.0.1))) in
      let all : cost ≡ wrap_weight w wrap + n = omega (arith, same, price, whole) in
      subst (IsLeastOf (IsTreeCost w m start len)) all least,
)

-- where no stacked blocks are as cheap as a block, a block is one copy
abbrev NoBlocks : Weights → List Entry → ℕ → ℕ → Row → ℕ → Type 0
NoBlocks w m start len row copies = (block : ℕ) → IsSplit Stacked m start len block → split_cost w Stacked len row.trees.items block ≡ copies → ⊥

stacked_split : (m : List Entry) (start len size count : ℕ) → 0 < len → count * size ≡ len → 1 < count → are_stacked m start size count ≡ true → IsSplit Stacked m start len size
stacked_split m start len size count some whole many stand =
    let is = is_block_length len size count some whole many in
    (is, subst (λ n. are_stacked m start size n ≡ true) (sym (how_many len size count (omega (arith, is.0)) whole)) stand)

above_blocks : (w : Weights) (m : List Entry) (start len copies : ℕ) (row : Row) → IsRow w m start row → start + len ≤ length m → 0 < len → IsLeastOf (IsBlockCost w m start len) copies
    → NoBlocks w m start len row copies → (size count cost : ℕ) → count * size ≡ len → 1 < count → are_stacked m start size count ≡ true → IsTreeCost w m start size cost → copies < cost
above_blocks w m start len copies row is inside some least none size count cost whole many stand h =
    let split = stacked_split m start len size count some whole many stand in
    let tree = tree_in w m start size row is split.0.0 (omega (arith, inside, split.0.1)) in
    let reached = subst (λ l. IsBlockCost w m start l (get_or row.trees.items (size - 1) 0)) whole (stacked_cost w m start size count (get_or row.trees.items (size - 1) 0) (omega arith) stand tree.0) in
    elim (cases_lt copies (get_or row.trees.items (size - 1) 0)) [
      | inl less ↦ omega (arith, less, tree.1 cost h)
      | inr from ↦
          let same : get_or row.trees.items (size - 1) 0 ≡ copies = omega (arith, least.1 _ reached) in
          absurd (none size split same)
    ]

-- then it is what the segment's trees cost
pub one_copy : (w : Weights) (m : List Entry) (start len copies cost : ℕ) (row : Row) → IsRow w m start row → start + len ≤ length m → 0 < len → IsLeastOf (IsBlockCost w m start len) copies
    → NoBlocks w m start len row copies → IsLeastOf (IsTreeCost w m start len) cost → cost ≤ copies
one_copy w m start len copies cost row is inside some least none tree =
    elim (cases_lt copies cost) [
      | inl less ↦
          absurd (past (block_bound w m start len (suc copies) copies inside (λ c h. omega (arith, less, tree.1 c h))
          (λ size count c whole many stand h. omega (arith, above_blocks w m start len copies row is inside some least none size count c whole many stand h)) least.0))
      | inr from ↦ from
    ]
  where
    past : suc copies ≤ copies → ⊥
    past le = omega arith

wrap_reached : (w : Weights) (m : List Entry) (start len copies : ℕ) (wrap : Wrap) → 0 < len → start + len ≤ length m → IsBlockCost w m start len copies
    → IsTreeCost w m start len (wrap_weight w wrap + copies)
wrap_reached w m start len copies Vector some inside h = vector_of_block w m start len copies h
wrap_reached w m start len copies Index some inside h = index_of_block w m start len copies h
wrap_reached w m start len copies Part some inside h =
    let same : w.group + (w.part + copies) ≡ w.group + w.part + copies = omega arith in
    subst (IsTreeCost w m start len) same (group_of_parts w m start len len (w.part + copies) some inside (parts_of_block w m start len copies inside h))

-- nothing but a group of two or more parts
pub record OnlyParts (w : Weights) (m : List Entry) (start len copies cost : ℕ) (row : Row) : Type 0 where
  pub even : (block : ℕ) → IsSplit Even m start len block → split_cost w Even len row.blocks.items block ≡ cost → ⊥
  pub alike : (block : ℕ) → IsSplit Alike m start len block → split_cost w Alike len row.blocks.items block ≡ cost → ⊥
  pub wraps : NoBlocks w m start len row copies ⊎ ((wrap : Wrap) → wrap_weight w wrap + copies ≡ cost → ⊥)

wraps_above : (w : Weights) (m : List Entry) (start len copies cost : ℕ) (row : Row) → IsRow w m start row → start + len ≤ length m → 0 < len → IsLeastOf (IsBlockCost w m start len) copies
    → IsLeastOf (IsTreeCost w m start len) cost → OnlyParts w m start len copies cost row → (wrap : Wrap)
    → (size count c : ℕ) → count * size ≡ len → 1 < count → are_stacked m start size count ≡ true → IsTreeCost w m start size c → cost < wrap_weight w wrap + c
wraps_above w m start len copies cost row is inside some block tree only wrap size count c whole many stand h =
    elim only.wraps [
      | inl none ↦ omega (arith, one_copy w m start len copies cost row is inside some block none tree, above_blocks w m start len copies row is inside some block none size count c whole many stand h)
      | inr none ↦
          let least : copies ≤ c = block.1 c (subst (λ l. IsBlockCost w m start l c) whole (stacked_cost w m start size count c (omega arith) stand h)) in
          let over : cost ≤ wrap_weight w wrap + copies = tree.1 _ (wrap_reached w m start len copies wrap some inside block.0) in
          elim (cases_lt cost (wrap_weight w wrap + copies)) [
            | inl less ↦ omega (arith, less, least)
            | inr from ↦ let same : wrap_weight w wrap + copies ≡ cost = omega arith in absurd (none wrap same)
          ]
    ]

not_same : (a b : ℕ) → a ≤ b → (b ≡ a → ⊥) → a < b
not_same a b le differ = elim (cases_lt a b) [ inl less ↦ less | inr from ↦ let same : b ≡ a = omega arith in absurd (differ same) ]

above : (w : Weights) (m : List Entry) (start len copies cost group : ℕ) (row : Row) → IsRow w m start row → start + len ≤ length m → 2 ≤ len → IsLeastOf (IsBlockCost w m start len) copies
    → IsLeastOf (IsTreeCost w m start len) cost → OnlyParts w m start len copies cost row → IsLeastOf (IsPartsCost w m start len (len - 1)) group → cost < w.group + group
    → AtMost w m start len (suc cost)
above w m start len copies cost group row is inside long block tree only least less =
    let wraps = wraps_above w m start len copies cost row is inside (omega arith) block tree only in
    record {
      leaf = λ one. absurd (omega (arith, one));
      groups = λ n h. omega (arith, less, least.1 n h);
      alike = λ size count n whole many stand h.
          let part = is_block_length len size count (omega arith) whole many in
          let same : len / size ≡ count = how_many len size count (omega (arith, part.0)) whole in
          let known = block_in w m start size row is part.0 (omega (arith, inside, part.1)) in
          let split : IsSplit Alike m start len size = (part, subst (λ n. are_alike m start size n ≡ true) (sym same) stand) in
          let price : w.place * (len / size) ≡ w.place * count = ap (λ n. w.place * n) same in
          let reached = subst (λ l. IsTreeCost w m start l (w.index + w.place * count + get_or row.blocks.items (size - 1) 0)) whole (alike_cost w m start size count _ (omega arith) stand known.0) in
          let over = not_same cost (w.index + w.place * count + get_or row.blocks.items (size - 1) 0) (tree.1 _ reached) (λ e. only.alike size split (omega (arith, e, price))) in
          omega (arith, over, known.1 n h);
      even = λ size count n step whole many stand rise h.
          let part = is_block_length len size count (omega arith) whole many in
          let same : len / size ≡ count = how_many len size count (omega (arith, part.0)) whole in
          let known = block_in w m start size row is part.0 (omega (arith, inside, part.1)) in
          let split : IsSplit Even m start len size =
          (part, (subst (λ n. are_alike m start size n ≡ true) (sym same) stand, (step, subst (λ n. rise_by step m start size n ≡ true) (sym same) rise))) in
          let reached = subst (λ l. IsTreeCost w m start l (w.vector + get_or row.blocks.items (size - 1) 0)) whole (even_cost w m start size count _ step (omega arith) stand rise known.0) in
          let over = not_same cost (w.vector + get_or row.blocks.items (size - 1) 0) (tree.1 _ reached) (λ e. only.even size split e) in
          omega (arith, over, known.1 n h);
      vector = λ size count n whole many stand h. omega (arith, wraps Vector size count n whole many stand h);
      index = λ size count n whole many stand h. omega (arith, wraps Index size count n whole many stand h);
      part = λ size count n whole many stand h. omega (arith, wraps Part size count n whole many stand h);
    }

pub parts_form : (w : Weights) (m : List Entry) (start len copies cost : ℕ) (row : Row) → IsRow w m start row → start + len ≤ length m → 2 ≤ len → IsLeastOf (IsBlockCost w m start len) copies
    → IsLeastOf (IsTreeCost w m start len) cost → OnlyParts w m start len copies cost row → IsForm w m start len Parts
parts_form w m start len copies cost row is inside long block tree only = (long, whole)
  where
    past : suc cost ≤ cost → ⊥
    past le = omega arith

    whole : (group : ℕ) → IsLeastOf (IsPartsCost w m start len (len - 1)) group → IsLeastOf (IsTreeCost w m start len) (w.group + group)
    whole group least =
        elim (cases_lt cost (w.group + group)) [
          | inl less ↦ absurd (past (tree_bound w m start len (suc cost) cost (omega arith) inside (above w m start len copies cost group row is inside long block tree only least less) tree.0))
          | inr from ↦
              let same : cost ≡ w.group + group = omega (arith, from, tree.1 _ (group_of_parts w m start len (len - 1) group (omega arith) inside least.0)) in
              subst (IsLeastOf (IsTreeCost w m start len)) same tree
        ]

-- the blocks of a segment
pub split_block : (w : Weights) (m : List Entry) (start len size copies : ℕ) (row : Row) → IsRow w m start row → start + len ≤ length m → IsLeastOf (IsBlockCost w m start len) copies
    → IsSplit Stacked m start len size → split_cost w Stacked len row.trees.items size ≡ copies → IsBlockAt w m start len size
split_block w m start len size copies row is inside least split same =
    let part = divided len size split.0 in
    record {
      some = split.0.0;
      within = omega (arith, split.0.1);
      whole = part.whole;
      stacked = split.1;
      least = λ cost one.
          let price = least_is_one (IsTreeCost w m start size) cost (get_or row.trees.items (size - 1) 0) one (tree_in w m start size row is split.0.0 (omega (arith, inside, split.0.1))) in
          let all : copies ≡ cost = omega (arith, same, price) in
          subst (IsLeastOf (IsBlockCost w m start len)) all least;
      longest = λ end. absurd (omega (arith, end, split.0.1));
    }

pub one_block_at : (w : Weights) (m : List Entry) (start len copies : ℕ) (row : Row) → IsRow w m start row → start + len ≤ length m → 1 ≤ len → IsLeastOf (IsBlockCost w m start len) copies
    → NoBlocks w m start len row copies → IsBlockAt w m start len len
one_block_at w m start len copies row is inside some least none =
    let single : len / len ≡ 1 = how_many len len 1 (omega arith) (omega arith) in
    record {
      some = some;
      within = omega arith;
      whole = ap (λ n. n * len) single ∙ omega arith;
      stacked = subst (λ n. are_stacked m start len n ≡ true) (sym single) (one_block m start len);
      least = λ cost one.
          let over = one_copy w m start len copies cost row is inside (omega arith) least none one in
          let under = least.1 cost (Rattle.dt_normal.proofs.Standing.block_of_tree w m start len cost one.0) in
          let same : copies ≡ cost = omega (arith, over, under) in
          subst (IsLeastOf (IsBlockCost w m start len)) same least;
      longest = λ end block count cost whole many stand h other are.
          omega (arith, least_is_one (IsBlockCost w m start len) other copies are least, above_blocks w m start len copies row is inside (omega arith) least none block count cost whole many stand h);
    }

pub block_found : (w : Weights) (m : List Entry) (start len copies : ℕ) (row : Row) (found : Option ℕ) → IsRow w m start row → start + len ≤ length m → 1 ≤ len
    → IsLeastOf (IsBlockCost w m start len) copies
    → MatchOption found (NoBlocks w m start len row copies) (λ size. IsSplit Stacked m start len size × (split_cost w Stacked len row.trees.items size ≡ copies))
    → IsBlockAt w m start len (unwrap_or found len)
block_found w m start len copies row None is inside some least none = one_block_at w m start len copies row is inside some least none
block_found w m start len copies row (Some size) is inside some least split = split_block w m start len size copies row is inside least split.0 split.1
