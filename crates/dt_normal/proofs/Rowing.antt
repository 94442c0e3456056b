-- rows of least costs that grow
use Rattle.std.proofs.Common.{◌≡◌, inl, inr, ℕ, zero, suc, ◌+◌, ◌-◌, ◌≤◌, ◌<◌, min, List, [], ◌∷◌, ◌++◌, map, length, get_or, refl, sym, ap, ◌∙◌, subst, arith, set, below_more, get_or-set_other, get_or-set_same, length-append, take, drop}
use Rattle.std.proofs.lemmas.Bool.{cases_lt}
use Rattle.std.proofs.lemmas.List.{get_or_append_left, get_or_push, get_or-map, length-map, length-set, take_at, get_or_default}
use Rattle.std.specs.Global.{Vec}
use Rattle.dt_map.specs.declared.entry.Entry.{Entry}
use Rattle.dt_tree.specs.Weights.{Weights, AreLight}
use Rattle.dt_normal.specs.declared.cell.Cell.{Cell}
use Rattle.dt_normal.specs.declared.row.Row.{Row}
use Rattle.dt_normal.specs.Costs.{IsLeastOf, IsTreeCost, IsBlockCost, IsPartsCost}
use Rattle.dt_normal.specs.Known.{AreLeast, IsCell, AreKnown, IsRow, AreRows, AreGroups, AreBlockLists, IsLowered}
use Rattle.dt_normal.specs.Splits.{AreBlockLengths}
use Rattle.dt_normal.proofs.Standing.{part_of_block, fewer_first}
use Rattle.dt_normal.proofs.Lower.{parts_bound}
use Rattle.dt_normal.proofs.Cells.{parts_few, block_few, first_cell_is}

-- a row as far as it goes
none_least : (Costs : ℕ → ℕ → Type 0) → AreLeast Costs 0 []
none_least Costs = record { each = refl; least = λ k lt. absurd (omega arith) }

one_least : (Costs : ℕ → ℕ → Type 0) (most cost : ℕ) (costs : List ℕ) → AreLeast Costs most costs → IsLeastOf (Costs (suc most)) cost → AreLeast Costs (most + 1) (costs ++ cost ∷ [])
one_least Costs most cost costs are is = record {
  each = length-append costs (cost ∷ []) ∙ ap (λ n. n + 1) are.each;
  least = λ k lt. below_more (λ i. IsLeastOf (Costs (suc i)) (get_or (costs ++ cost ∷ []) i 0)) most
      (λ i less. rw (get_or_append_left costs (cost ∷ []) 0 i (omega (arith, are.each))) (are.least i less)) (rw (get_or_push costs cost 0 most are.each) is) k lt;
}

pub one_known : (w : Weights) (m : List Entry) (start most : ℕ) (row now : Row) (cell : Cell) → AreKnown w m start most row → IsCell w m start (most + 1) cell
    → now.trees.items ≡ row.trees.items ++ cell.tree ∷ [] → now.blocks.items ≡ row.blocks.items ++ cell.block ∷ [] → now.parts.items ≡ row.parts.items ++ cell.parts ∷ []
    → AreKnown w m start (most + 1) now
one_known w m start most row now cell known is trees blocks parts =
    let next : most + 1 ≡ suc most = omega arith in
    let cell_next = subst (λ n. IsCell w m start n cell) next is in
    record {
      trees = subst (AreLeast (IsTreeCost w m start) (most + 1)) (sym trees) (one_least (IsTreeCost w m start) most cell.tree row.trees.items known.trees cell_next.tree);
      blocks = subst (AreLeast (IsBlockCost w m start) (most + 1)) (sym blocks) (one_least (IsBlockCost w m start) most cell.block row.blocks.items known.blocks cell_next.block);
      parts = subst (AreLeast (λ len. IsPartsCost w m start len len) (most + 1)) (sym parts)
          (one_least (λ len. IsPartsCost w m start len len) most cell.parts row.parts.items known.parts cell_next.parts);
    }

pub none_known : (w : Weights) (m : List Entry) (start : ℕ) (row : Row) → row.trees.items ≡ [] → row.blocks.items ≡ [] → row.parts.items ≡ [] → AreKnown w m start 0 row
none_known w m start row trees blocks parts = record {
  trees = subst (AreLeast (IsTreeCost w m start) 0) (sym trees) (none_least (IsTreeCost w m start));
  blocks = subst (AreLeast (IsBlockCost w m start) 0) (sym blocks) (none_least (IsBlockCost w m start));
  parts = subst (AreLeast (λ len. IsPartsCost w m start len len) 0) (sym parts) (none_least (λ len. IsPartsCost w m start len len));
}

-- parts with a first block of a length, and the least of those with a shorter one
group_reached : (w : Weights) (m : List Entry) (start len k block after : ℕ) → start + len ≤ length m → IsBlockCost w m start len block → IsPartsCost w m (start + len) (suc k) (suc k) after
    → IsPartsCost w m start (len + suc k) len (w.part + block + after)
group_reached w m start len k block after inside first rest = part_of_block w m start len (suc k) (suc k) block after inside first rest

group_most : (w : Weights) (m : List Entry) (start len k block after cost n : ℕ) → start + (len + suc k) ≤ length m → IsLeastOf (IsBlockCost w m start len) block
    → IsLeastOf (IsPartsCost w m (start + len) (suc k) (suc k)) after → cost ≤ w.part + block + after
    → ((one rest j : ℕ) → 0 < j → j < len → IsBlockCost w m start j one → IsPartsCost w m (start + j) (len + suc k - j) (len + suc k - j) rest → cost ≤ w.part + one + rest)
    → IsPartsCost w m start (len + suc k) len n → cost ≤ n
group_most w m start len k block after cost n inside first rest le before h =
    parts_bound w m start (len + suc k) len cost n (omega arith) inside each h
  where
    each : (j one other : ℕ) → 0 < j → j ≤ len → j ≤ len + suc k → IsBlockCost w m start j one → IsPartsCost w m (start + j) (len + suc k - j) (len + suc k - j) other → cost ≤ w.part + one + other
    each j one other some within short block after =
        elim (cases_lt j len) [
          | inl less ↦ before one other j some less block after
          | inr from ↦
              let same : j ≡ len = omega arith in
              let left : len + suc k - j ≡ suc k = omega arith in
              let whole = subst (λ i. IsPartsCost w m (start + i) (suc k) (suc k) other) same (subst (λ n. IsPartsCost w m (start + j) n n other) left after) in
              omega (arith, le, first.1 one (subst (λ i. IsBlockCost w m start i one) same block), rest.1 other whole)
        ]

-- the first entry alone as the first part
pub first_groups_are : (w : Weights) (m : List Entry) (start : ℕ) (next : Row) (costs : List ℕ) → start + 1 < length m → IsRow w m (start + 1) next
    → costs ≡ map (λ cost. w.part + w.leaf + cost) next.parts.items → AreGroups w m start 1 costs
first_groups_are w m start next costs inside is same = record {
  each = omega (arith, ap length same, length-map next.parts.items (λ cost. w.part + w.leaf + cost), is.parts.each);
  least = λ k from lt. one k (omega (arith, lt, ap length same, length-map next.parts.items (λ cost. w.part + w.leaf + cost)));
}
  where
    leaf : IsLeastOf (IsBlockCost w m start 1) w.leaf
    leaf = (first_cell_is w m start (record { tree = w.leaf; block = w.leaf; parts = w.part + w.leaf }) (omega arith) refl refl refl).block

    one : (k : ℕ) → k < length next.parts.items → IsLeastOf (IsPartsCost w m start (suc (suc k)) 1) (get_or costs k 0)
    one k lt =
        let at : get_or costs k 0 ≡ w.part + w.leaf + get_or next.parts.items k 0 =
        ap (λ (xs : List ℕ). get_or xs k 0) same ∙ get_or-map (λ cost. w.part + w.leaf + cost) next.parts.items k 0 0 lt in
        let rest = is.parts.least k (omega (arith, is.parts.each)) in
        let here : start + (1 + suc k) ≤ length m = omega (arith, is.parts.each) in
        let long : 1 + suc k ≡ suc (suc k) = omega arith in
        subst (λ l. IsLeastOf (IsPartsCost w m start l 1) (get_or costs k 0)) long (
          subst (IsPartsCost w m start (1 + suc k) 1) (sym at) (group_reached w m start 1 k w.leaf (get_or next.parts.items k 0) (omega arith) leaf.0 rest.0),
          λ n h. group_most w m start 1 k w.leaf (get_or next.parts.items k 0) (get_or costs k 0) n here leaf rest (omega (arith, at)) (λ a b j some less. absurd (omega arith)) h,
        )

pub no_groups : (w : Weights) (m : List Entry) (start : ℕ) → start + 1 ≡ length m → AreGroups w m start 1 []
no_groups w m start end = record { each = omega (arith, end); least = λ k from lt. absurd (omega arith) }

shorter : (w : Weights) (m : List Entry) (start len x a b j : ℕ) → 0 < j → j < len → start + (len + suc x) ≤ length m → IsBlockCost w m start j a
    → IsPartsCost w m (start + j) (len + suc x - j) (len + suc x - j) b → IsPartsCost w m start (len + suc x) (len - 1) (w.part + a + b)
shorter w m start len x a b j some less here one_block after =
    let whole : j + (len + suc x - j) ≡ len + suc x = omega arith in
    fewer_first w m start (len + suc x) j (len - 1) (w.part + a + b) (omega arith)
    (subst (λ l. IsPartsCost w m start l j (w.part + a + b)) whole (part_of_block w m start j (len + suc x - j) (len + suc x - j) a b (omega arith) one_block after))

-- a first part of one length more
pub groups_lowered : (w : Weights) (m : List Entry) (start len block : ℕ) (next : Row) (before now : List ℕ) → 1 ≤ len → start + len < length m
    → IsLeastOf (IsBlockCost w m start len) block → IsRow w m (start + len) next → AreGroups w m start (len - 1) before
    → IsLowered (len - 1) (w.part + block) next.parts.items before now → AreGroups w m start len now
groups_lowered w m start len block next before now some inside first is were are = record {
  each = omega (arith, are.each, were.each);
  least = λ k from lt.
      let place : len - 1 + (k - (len - 1)) ≡ k = omega arith in
      let whole : len + suc (k - (len - 1)) ≡ suc (suc k) = omega arith in
      subst (λ i. IsLeastOf (IsPartsCost w m start (suc (suc k)) len) (get_or now i 0)) place
      (subst (λ l. IsLeastOf (IsPartsCost w m start l len) (get_or now (len - 1 + (k - (len - 1))) 0)) whole (one (k - (len - 1)) (omega (arith, lt, are.each, were.each, is.parts.each))));
}
  where
    one : (x : ℕ) → x < length next.parts.items → IsLeastOf (IsPartsCost w m start (len + suc x) len) (get_or now (len - 1 + x) 0)
    one x lt =
        let long : suc (suc (len - 1 + x)) ≡ len + suc x = omega arith in
        let old : IsLeastOf (IsPartsCost w m start (len + suc x) (len - 1)) (get_or before (len - 1 + x) 0) =
        subst (λ l. IsLeastOf (IsPartsCost w m start l (len - 1)) (get_or before (len - 1 + x) 0)) long (were.least (len - 1 + x) (omega arith) (omega (arith, lt, were.each, is.parts.each))) in
        let rest = is.parts.least x (omega (arith, is.parts.each)) in
        let here : start + (len + suc x) ≤ length m = omega (arith, is.parts.each) in
        let at = are.lowered x lt in (
          lesser_of (get_or before (len - 1 + x) 0) (w.part + block + get_or next.parts.items x 0) (get_or now (len - 1 + x) 0) at
              (fewer_first w m start (len + suc x) (len - 1) len _ (omega arith) old.0) (group_reached w m start len x block (get_or next.parts.items x 0) (omega arith) first.0 rest.0),
          λ n h. group_most w m start len x block (get_or next.parts.items x 0) (get_or now (len - 1 + x) 0) n here first rest (omega (arith, at))
              (λ a b j some less one_block after. omega (arith, at, old.1 (w.part + a + b) (shorter w m start len x a b j some less here one_block after))) h,
        )
      where
        lesser_of : (a b n : ℕ) → n ≡ min a b → IsPartsCost w m start (len + suc x) len a → IsPartsCost w m start (len + suc x) len b → IsPartsCost w m start (len + suc x) len n
        lesser_of a b n e h k =
            elim (cases_lt a b) [
              | inl less ↦ let same : a ≡ n = omega arith in subst (IsPartsCost w m start (len + suc x) len) same h
              | inr from ↦ let same : b ≡ n = omega arith in subst (IsPartsCost w m start (len + suc x) len) same k
            ]

pub groups_end : (w : Weights) (m : List Entry) (start len : ℕ) (costs : List ℕ) → 1 ≤ len → length m ≤ start + len → AreGroups w m start (len - 1) costs → AreGroups w m start len costs
groups_end w m start len costs some end are = record { each = are.each; least = λ k from lt. absurd (omega (arith, from, lt, are.each)) }

-- sums of costs are bounded
pub sums_fit : (w : Weights) (m : List Entry) (start len block : ℕ) (next : Row) → AreLight w → length m ≤ 1024 → 1 ≤ len → start + len < length m
    → IsLeastOf (IsBlockCost w m start len) block → IsRow w m (start + len) next → (k : ℕ) → k < length next.parts.items → w.part + block + get_or next.parts.items k 0 < 4294967296
sums_fit w m start len block next light few some inside first is k lt =
    omega (
      arith,
      light,
      block_few w m start len block light (omega arith) some first,
      parts_few w m (start + len) (suc k) (suc k) (get_or next.parts.items k 0) light (omega (arith, is.parts.each)) (omega arith)
          (is.parts.least k (omega (arith, is.parts.each))),
    )

-- rows of the last starts
pub row_in : (w : Weights) (m : List Entry) (rows : List Row) (start : ℕ) (row : Row) → AreRows w m rows → start < length m → length m ≤ start + length rows
    → row ≡ get_or rows (length m - 1 - start) row → IsRow w m start row
row_in w m rows start row are inside enough is =
    let place : length m - suc (length m - 1 - start) ≡ start = omega arith in
    subst (λ (r : Row). IsRow w m start r) (sym is) (subst (λ n. IsRow w m n (get_or rows (length m - 1 - start) row)) place (are.row (length m - 1 - start) row (omega arith)))

pub none_rows : (w : Weights) (m : List Entry) → AreRows w m []
none_rows w m = record { few = omega arith; row = λ k other lt. absurd (omega arith) }

pub one_row : (w : Weights) (m : List Entry) (start : ℕ) (rows : List Row) (row : Row) → AreRows w m rows → start + 1 + length rows ≡ length m → IsRow w m start row → AreRows w m (rows ++ row ∷ [])
one_row w m start rows row are place is = record {
  few = omega (arith, length-append rows (row ∷ []));
  row = λ k other lt. below_more (λ i. IsRow w m (length m - suc i) (get_or (rows ++ row ∷ []) i other)) (length rows)
      (λ i less. rw (get_or_append_left rows (row ∷ []) other i less) (are.row i other less))
      (let at : length m - suc (length rows) ≡ start = omega arith in rw (get_or_push rows row other (length rows) refl) (subst (λ n. IsRow w m n row) (sym at) is)) k
      (omega (arith, length-append rows (row ∷ [])));
}

-- costs brought down one after another
pub record Lowered (from price k : ℕ) (after before now : List ℕ) : Type 0 where
  pub each : length now ≡ length before
  pub done : (j : ℕ) → j < k → get_or now (from + j) 0 ≡ min (get_or before (from + j) 0) (price + get_or after j 0)
  pub rest : (j : ℕ) → k ≤ j → get_or now (from + j) 0 ≡ get_or before (from + j) 0

pub none_lowered : (from price : ℕ) (after before : List ℕ) → Lowered from price 0 after before before
none_lowered from price after before = record { each = refl; done = λ j lt. absurd (omega arith); rest = λ j le. refl }

pub one_lowered : (from price k cost : ℕ) (after before now : List ℕ) → Lowered from price k after before now → from + k < length before
    → cost ≡ min (get_or now (from + k) 0) (price + get_or after k 0) → Lowered from price (k + 1) after before (set now (from + k) cost)
one_lowered from price k cost after before now known lt is = record {
  each = length-set now (from + k) cost ∙ known.each;
  done = below_more _ _
      (λ j below. rw (get_or-set_other now (from + k) (from + j) cost 0 (omega arith)) (known.done j below))
      (rw (get_or-set_same now (from + k) cost 0 (omega (arith, known.each))) (omega (arith, is, known.rest k (omega arith))));
  rest = λ j le. get_or-set_other now (from + k) (from + j) cost 0 (omega arith) ∙ known.rest j (omega arith);
}

pub all_lowered : (from price k : ℕ) (after before now : List ℕ) → length after ≤ k → Lowered from price k after before now → IsLowered from price after before now
all_lowered from price k after before now end known = record { each = known.each; lowered = λ j lt. known.done j (omega arith) }

-- a list that was lent and came back whole
pub came_back : (len : ℕ) (xs ys : List ℕ) → length xs ≡ len → take len (xs ++ drop (length xs) ys) ≡ xs
came_back len xs ys same = take_at xs (drop (length xs) ys) len same

pub groups_back : (w : Weights) (m : List Entry) (start most len : ℕ) (before now : List ℕ) → AreGroups w m start most now → len ≡ length before
    → start + 1 + length before ≡ length m → AreGroups w m start most (take len (now ++ drop (length now) before))
groups_back w m start most len before now are same each = rw (came_back len now before (omega (arith, are.each))) are

pub first_fit : (w : Weights) (m : List Entry) (start : ℕ) (next : Row) → AreLight w → length m ≤ 1024 → start + 1 < length m → IsRow w m (start + 1) next
    → (k : ℕ) → k < length next.parts.items → w.part + w.leaf + get_or next.parts.items k 0 < 4294967296
first_fit w m start next light few inside is =
    sums_fit w m start 1 w.leaf next light few (omega arith) inside (first_cell_is w m start (record { tree = w.leaf; block = w.leaf; parts = w.part + w.leaf }) (omega arith) refl refl refl).block is

-- the lists of a row's lengths
pub list_at : (most k : ℕ) (lists : List (Vec ℕ)) (list : Vec ℕ) → AreBlockLists most lists → k < most → list ≡ get_or lists k list → AreBlockLengths (k + 1) list.items
list_at most k lists list are lt is =
    let next : suc k ≡ k + 1 = omega arith in
    subst (λ (v : Vec ℕ). AreBlockLengths (k + 1) v.items) (sym is) (subst (λ n. AreBlockLengths n (get_or lists k list).items) next (are.parts k list lt))

pub none_listed : AreBlockLists 0 []
none_listed = record { each = refl; parts = λ k other lt. absurd (omega arith) }

pub one_listed : (most : ℕ) (lists : List (Vec ℕ)) (list : Vec ℕ) → AreBlockLists most lists → AreBlockLengths (most + 1) list.items → AreBlockLists (most + 1) (lists ++ list ∷ [])
one_listed most lists list are is =
    let next : most + 1 ≡ suc most = omega arith in
    record {
      each = length-append lists (list ∷ []) ∙ ap (λ n. n + 1) are.each;
      parts = λ k other lt. below_more (λ i. AreBlockLengths (suc i) (get_or (lists ++ list ∷ []) i other).items) most
          (λ i less. rw (get_or_append_left lists (list ∷ []) other i (omega (arith, are.each))) (are.parts i other less))
          (rw (get_or_push lists list other most are.each) (subst (λ n. AreBlockLengths n list.items) next is)) k lt;
    }

pub known_before : (w : Weights) (m : List Entry) (start k : ℕ) (row : Row) → AreKnown w m start k row → AreKnown w m start (k + 1 - 1) row
known_before w m start k row known = let same : k ≡ k + 1 - 1 = omega arith in subst (λ n. AreKnown w m start n row) same known

pub groups_before : (w : Weights) (m : List Entry) (start k : ℕ) (costs now : List ℕ) → AreGroups w m start k costs → now ≡ costs → AreGroups w m start (k + 1 - 1) now
groups_before w m start k costs now known is = let same : k ≡ k + 1 - 1 = omega arith in subst (AreGroups w m start (k + 1 - 1)) (sym is) (subst (λ n. AreGroups w m start n costs) same known)

pub group_at : (w : Weights) (m : List Entry) (start k cost : ℕ) (costs : List ℕ) → AreGroups w m start k costs → 1 ≤ k → start + k < length m → cost ≡ get_or costs (k - 1) cost
    → IsLeastOf (IsPartsCost w m start (k + 1) (k + 1 - 1)) cost
group_at w m start zero cost costs are some inside is = absurd (omega arith)
group_at w m start (suc j) cost costs are some inside is =
    let place : suc j - 1 ≡ j = omega arith in
    let long : suc (suc j) ≡ suc j + 1 = omega arith in
    let first : suc j ≡ suc j + 1 - 1 = omega arith in
    let within : j < length costs = omega (arith, are.each) in
    let here : get_or costs j 0 ≡ cost = get_or_default costs j 0 cost within ∙ (ap (λ n. get_or costs n cost) (sym place) ∙ sym is) in
    subst (λ f. IsLeastOf (IsPartsCost w m start (suc j + 1) f) cost) first
    (subst (λ l. IsLeastOf (IsPartsCost w m start l (suc j)) cost) long (subst (IsLeastOf (IsPartsCost w m start (suc (suc j)) (suc j))) here (are.least j (omega arith) within)))
