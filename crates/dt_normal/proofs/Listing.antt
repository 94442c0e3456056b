-- the list of a table's segments, made one by one
use Rattle.std.proofs.Common.{◌≡◌, ℕ, suc, ◌+◌, ◌≤◌, ◌<◌, Bool, cond, nat_lt, List, [], ◌∷◌, ◌++◌, map, sym, ap, ◌∙◌, arith, append-nil, append_assoc}
use Rattle.std.specs.List.{filter, flat_map}
use Rattle.std.proofs.lemmas.List.{map_push}
use Rattle.std.proofs.lemmas.List.Elements.{filter-append}
use Rattle.std.proofs.lemmas.Bool.{lt-ltb, le-ltb}
use Rattle.std.proofs.lemmas.Grind.{flat_map-append}
use Rattle.dt_offsets.specs.Offsets.{below}
use Rattle.dt_map.specs.declared.entry.Entry.{Entry}
use Rattle.dt_tree.specs.Weights.{Weights}
use Rattle.dt_normal.specs.declared.low.Low.{Low}
use Rattle.dt_normal.specs.Costs.{IsLeastOf, IsTreeCost}
use Rattle.dt_normal.specs.Lows.{AreLeastCosts, low_of, listed_at}
use Rattle.dt_normal.specs.Table.{Table, IsSegment}
use Rattle.dt_normal.proofs.Validity.{least_is_one}

abbrev pub positive : Low → Bool
positive a = nat_lt 0 a.low

-- the segments of a length up to a start
abbrev pub front : Table → ℕ → ℕ → List Low
front table len start = filter positive (map (low_of table len) (below start))

-- and those of all lengths up to one
abbrev pub lengths : ℕ → Table → ℕ → List Low
lengths n table k = flat_map (λ i. listed_at n table (suc i)) (below k)

front_more : (table : Table) (len start : ℕ) → front table len (start + 1) ≡ front table len start ++ filter positive (low_of table len start ∷ [])
front_more table len start =
    let next : start + 1 ≡ suc start = omega arith in
    ap (front table len) next ∙ (ap (filter positive) (map_push (low_of table len) (below start) start) ∙ filter-append positive (map (low_of table len) (below start)) (low_of table len start ∷ []))

pub low_kept : (w : Weights) (m : List Entry) (table : Table) (start len value : ℕ) (before now : List Low) → AreLeastCosts w m table → IsSegment m start len
    → IsLeastOf (IsTreeCost w m start len) value → 0 < value → now ≡ before ++ front table len start
    → now ++ (let a : Low = record { from = start; to = start + len; low = value } in a) ∷ [] ≡ before ++ front table len (start + 1)
low_kept w m table start len value before now are segment least some is =
    let same : value ≡ table start len = least_is_one (IsTreeCost w m start len) value (table start len) least (are start len segment) in
    let above : 0 < table start len = omega (arith, same, some) in
    ap (λ v. now ++ (let a : Low = record { from = start; to = start + len; low = v } in a) ∷ []) same
    ∙ (ap (λ l. l ++ low_of table len start ∷ []) is
    ∙ (append_assoc before (front table len start) (low_of table len start ∷ [])
    ∙ ap (λ l. before ++ l) (sym (front_more table len start ∙ ap (λ b. front table len start ++ cond b (low_of table len start ∷ []) []) (lt-ltb 0 (table start len) above)))))

pub low_left : (w : Weights) (m : List Entry) (table : Table) (start len value : ℕ) (before now : List Low) → AreLeastCosts w m table → IsSegment m start len
    → IsLeastOf (IsTreeCost w m start len) value → value ≤ 0 → now ≡ before ++ front table len start → now ≡ before ++ front table len (start + 1)
low_left w m table start len value before now are segment least none is =
    let same : value ≡ table start len = least_is_one (IsTreeCost w m start len) value (table start len) least (are start len segment) in
    let zero_at : table start len ≤ 0 = omega (arith, same, none) in
    is ∙ ap (λ l. before ++ l)
    (sym (front_more table len start ∙ (ap (λ b. front table len start ++ cond b (low_of table len start ∷ []) []) (le-ltb 0 (table start len) zero_at) ∙ append-nil (front table len start))))

pub lengths_more : (n : ℕ) (table : Table) (k : ℕ) (before now : List Low) → before ≡ lengths n table k → now ≡ before ++ listed_at n table (k + 1) → now ≡ lengths n table (k + 1)
lengths_more n table k before now is more =
    let next : k + 1 ≡ suc k = omega arith in
    more
    ∙ (ap (λ l. l ++ listed_at n table (k + 1)) is
    ∙ (ap (λ j. lengths n table k ++ listed_at n table j) next
    ∙ (ap (λ l. lengths n table k ++ l) (sym (append-nil (listed_at n table (suc k)))) ∙ (sym (flat_map-append (λ i. listed_at n table (suc i)) (below k) (k ∷ [])) ∙ ap (lengths n table) (sym next)))))
