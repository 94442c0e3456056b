-- the table of least costs is valid, and no valid one exceeds it
use Rattle.std.proofs.Common.{◌≡◌, ℕ, zero, suc, ◌+◌, ◌-◌, ◌*◌, ◌≤◌, ◌<◌, List, [], ◌∷◌, length, get_or, sum, sym, ◌∙◌, subst, arith}
use Rattle.std.specs.List.{All}
use Rattle.std.proofs.lemmas.List.Elements.{All-head, All-tail}
use Rattle.std.proofs.lemmas.List.{get_or_default}
use Rattle.std.proofs.lemmas.List.Sums.{sum_by-cons}
use Rattle.dt_map.specs.declared.entry.Entry.{Entry}
use Rattle.dt_tree.specs.Weights.{Weights}
use Rattle.dt_normal.specs.Costs.{IsLeastOf, IsTreeCost, IsBlockCost, IsPartsCost}
use Rattle.dt_normal.specs.declared.row.Row.{Row}
use Rattle.dt_normal.specs.Known.{AreRows, IsRow}
use Rattle.dt_normal.specs.Lows.{AreLeastCosts, IsGreatest}
use Rattle.dt_normal.specs.Table.{Table, least_run, cut_cost, IsValid}
use Rattle.dt_normal.proofs.Bounds.{table_bounds_trees, least_run_is_least}
use Rattle.dt_normal.proofs.Standing.{leaf_cost, even_cost, alike_cost, stacked_cost, group_of_parts, part_of_block, parts_of_none, fewer_first}
use Rattle.dt_normal.proofs.Cells.{known_at}

product_pos : (count block len : ℕ) → count * block ≡ len → 0 < len → (0 < count) × (0 < block) × (block ≤ len)
product_pos zero block len e some = absurd (omega (arith, e))
product_pos (suc count) zero len e some = absurd (omega (arith, e))
product_pos (suc count) (suc block) len e some = (omega arith, omega arith, omega (arith, e))

-- a least run is what a block costs
run_cost : (w : Weights) (m : List Entry) (table : Table) → AreLeastCosts w m table → (start len : ℕ) → 0 < len → start + len ≤ length m
    → IsBlockCost w m start len (least_run m table start len)
run_cost w m table are start len some inside =
    let least = (least_run_is_least m table start len some).1 in
    let block : ℕ = least.0 in
    let count : ℕ = least.1 in
    let parts = product_pos count block len least.2 some in
    let tree = (are start block (parts.1, omega (arith, inside, parts.2))).0 in
    subst (IsBlockCost w m start len) (sym least.4) (subst (λ l. IsBlockCost w m start l (table start block)) least.2 (stacked_cost w m start block count (table start block) parts.0 least.3 tree))

-- and a cut is what parts cost
cut_costs : (w : Weights) (m : List Entry) (table : Table) → AreLeastCosts w m table → (cut : List ℕ) (start : ℕ) → All (λ n. 0 < n) cut → start + sum cut ≤ length m
    → IsPartsCost w m start (sum cut) (sum cut) (cut_cost w m table start cut)
cut_costs w m table are [] start pos inside = parts_of_none w m start
cut_costs w m table are (k ∷ cut) start pos inside =
    let all : sum (k ∷ cut) ≡ k + sum cut = sum_by-cons (λ (x : ℕ). x) k cut in
    let rest = cut_costs w m table are cut (start + k) (All-tail (λ n. 0 < n) k cut pos) (omega (arith, all, inside)) in
    let first = run_cost w m table are start k (All-head (λ n. 0 < n) k cut pos) (omega (arith, all, inside)) in
    subst (λ l. IsPartsCost w m start l l (cut_cost w m table start (k ∷ cut))) (sym all)
    (fewer_first w m start (k + sum cut) k (k + sum cut) (cut_cost w m table start (k ∷ cut)) (omega arith)
    (part_of_block w m start k (sum cut) (sum cut) (least_run m table start k) (cut_cost w m table (start + k) cut) (omega (arith, all, inside)) first rest))

pub least_costs_valid : (w : Weights) (m : List Entry) (table : Table) → AreLeastCosts w m table → IsValid w m table
least_costs_valid w m table are = record {
  leaf = λ start segment. (are start 1 segment).1 w.leaf (leaf_cost w m start segment.1);
  cuts = λ start len cut segment pos whole.
      let all : start + sum cut ≤ length m = omega (arith, whole, segment.1) in
      let parts = subst (λ l. IsPartsCost w m start l l (cut_cost w m table start cut)) whole (cut_costs w m table are cut start pos all) in
      (are start len segment).1 (w.group + cut_cost w m table start cut) (group_of_parts w m start len len (cut_cost w m table start cut) segment.0 segment.1 parts);
  alike = λ start len block count segment whole stand.
      let parts = product_pos count block len whole segment.0 in
      let run = run_cost w m table are start block parts.1 (omega (arith, segment.1, parts.2)) in
      (are start len segment).1 (w.index + w.place * count + least_run m table start block)
      (subst (λ l. IsTreeCost w m start l (w.index + w.place * count + least_run m table start block)) whole (alike_cost w m start block count (least_run m table start block) parts.0 stand run));
  even = λ start len block count step segment whole stand rise.
      let parts = product_pos count block len whole segment.0 in
      let run = run_cost w m table are start block parts.1 (omega (arith, segment.1, parts.2)) in
      (are start len segment).1 (w.vector + least_run m table start block)
      (subst (λ l. IsTreeCost w m start l (w.vector + least_run m table start block)) whole (even_cost w m start block count (least_run m table start block) step parts.0 stand rise run));
}

pub least_costs_greatest : (w : Weights) (m : List Entry) (table : Table) → AreLeastCosts w m table → IsGreatest w m table
least_costs_greatest w m table are = record {
  valid = least_costs_valid w m table are;
  greatest = λ other valid start len segment.
      let tree = (are start len segment).0 in
      omega (arith, tree.3, table_bounds_trees w m other valid start len tree.1 tree.0 segment tree.2);
}

-- the table that rows say
abbrev table_in : Row → List Row → Table
table_in some rows start len = get_or (get_or rows (length rows - 1 - start) some).trees.items (len - 1) 0

pub table_of_rows : (w : Weights) (m : List Entry) (rows : List Row) → AreRows w m rows → length rows ≡ length m → (table : Table) × AreLeastCosts w m table
table_of_rows w m [] are each = (λ start len. 0, λ start len segment. absurd (omega (arith, each, segment.0, segment.1)))
table_of_rows w m (some ∷ rows) are each = (table_in some (some ∷ rows), costs)
  where
    costs : AreLeastCosts w m (table_in some (some ∷ rows))
    costs start len segment =
        let k : ℕ = length (some ∷ rows) - 1 - start in
        let place : length m - suc (length (some ∷ rows) - 1 - start) ≡ start = omega (arith, each, segment.0, segment.1) in
        let row = are.row (length (some ∷ rows) - 1 - start) some (omega (arith, each, segment.0, segment.1)) in
        known_at (IsTreeCost w m start) (length m - start) len (get_or (some ∷ rows) (length (some ∷ rows) - 1 - start) some).trees.items
        (subst (λ n. Rattle.dt_normal.specs.Known.AreLeast (IsTreeCost w m n) (length m - n) (get_or (some ∷ rows) (length (some ∷ rows) - 1 - start) some).trees.items) place row.trees) segment.0
        (omega (arith, segment.1))

-- a least cost is one number
pub least_is_one : (P : ℕ → Type 0) (a b : ℕ) → IsLeastOf P a → IsLeastOf P b → a ≡ b
least_is_one P a b one other = omega (arith, one.1 b other.0, other.1 a one.0)

-- what a row says of a length
pub tree_read : (w : Weights) (m : List Entry) (start len cost : ℕ) (row : Row) → IsRow w m start row → 1 ≤ len → start + len ≤ length m
    → cost ≡ get_or row.trees.items (len - 1) cost → IsLeastOf (IsTreeCost w m start len) cost
tree_read w m start len cost row are some inside is =
    let here : get_or row.trees.items (len - 1) 0 ≡ cost = get_or_default row.trees.items (len - 1) 0 cost (omega (arith, are.trees.each)) ∙ sym is in
    subst (IsLeastOf (IsTreeCost w m start len)) here (known_at (IsTreeCost w m start) (length m - start) len row.trees.items are.trees some (omega (arith, inside)))

pub block_read : (w : Weights) (m : List Entry) (start len cost : ℕ) (row : Row) → IsRow w m start row → 1 ≤ len → start + len ≤ length m
    → cost ≡ get_or row.blocks.items (len - 1) cost → IsLeastOf (IsBlockCost w m start len) cost
block_read w m start len cost row are some inside is =
    let here : get_or row.blocks.items (len - 1) 0 ≡ cost = get_or_default row.blocks.items (len - 1) 0 cost (omega (arith, are.blocks.each)) ∙ sym is in
    subst (IsLeastOf (IsBlockCost w m start len)) here (known_at (IsBlockCost w m start) (length m - start) len row.blocks.items are.blocks some (omega (arith, inside)))
