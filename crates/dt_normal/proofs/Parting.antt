-- the first parts of cheapest parts
use Rattle.std.proofs.Common.{◌≡◌, ℕ, suc, ◌+◌, ◌-◌, ◌≤◌, ◌<◌, List, length, get_or, sym, ◌∙◌, subst, arith, inl, inr}
use Rattle.std.proofs.lemmas.Bool.{cases_lt}
use Rattle.std.proofs.lemmas.List.{get_or_default}
use Rattle.dt_map.specs.declared.entry.Entry.{Entry}
use Rattle.dt_tree.specs.Weights.{Weights, AreLight}
use Rattle.dt_normal.specs.declared.row.Row.{Row}
use Rattle.dt_normal.specs.Costs.{IsLeastOf, IsBlockCost, IsPartsCost}
use Rattle.dt_normal.specs.Forms.{IsFirstPart, IsPrice}
use Rattle.dt_normal.specs.Known.{IsRow}
use Rattle.dt_normal.proofs.Standing.{parts_of_none}
use Rattle.dt_normal.proofs.Lower.{parts_bound}
use Rattle.dt_normal.proofs.Cells.{known_at, parts_few}
use Rattle.dt_normal.proofs.Validity.{least_is_one}

pub no_parts_cost : (w : Weights) (m : List Entry) (start len : ℕ) → len ≡ 0 → IsLeastOf (IsPartsCost w m start len len) 0
no_parts_cost w m start len none = subst (λ l. IsLeastOf (IsPartsCost w m start l l) 0) (sym none) (parts_of_none w m start, λ n h. omega arith)

pub parts_read : (w : Weights) (m : List Entry) (start len cost : ℕ) (row : Row) → IsRow w m start row → 1 ≤ len → start + len ≤ length m
    → cost ≡ get_or row.parts.items (len - 1) cost → IsLeastOf (IsPartsCost w m start len len) cost
parts_read w m start len cost row are some inside is =
    let here : get_or row.parts.items (len - 1) 0 ≡ cost = get_or_default row.parts.items (len - 1) 0 cost (omega (arith, are.parts.each)) ∙ sym is in
    subst (IsLeastOf (IsPartsCost w m start len len)) here (known_at (λ l. IsPartsCost w m start l l) (length m - start) len row.parts.items are.parts some (omega (arith, inside)))

pub parts_near : (w : Weights) (m : List Entry) (start len cost : ℕ) → AreLight w → length m ≤ 1024 → 1 ≤ len → start + len ≤ length m → IsLeastOf (IsPartsCost w m start len len) cost
    → cost ≤ 2048000000
parts_near w m start len cost light few some inside least = omega (arith, few, inside, parts_few w m start len len cost light inside some least)

-- the best of the shorter first parts
pub record BestBelow (w : Weights) (m : List Entry) (start len k first least : ℕ) : Type 0 where
  pub some : 1 ≤ first
  pub within : first < k
  pub price : IsPrice w m start len first least
  pub each : (j one rest : ℕ) → 1 ≤ j → j < k → IsBlockCost w m start j one → IsPartsCost w m (start + j) (len - j) (len - j) rest → least ≤ w.part + one + rest
  pub shorter : (j one rest : ℕ) → 1 ≤ j → j < first → IsBlockCost w m start j one → IsPartsCost w m (start + j) (len - j) (len - j) rest → least < w.part + one + rest

at_least : (w : Weights) (m : List Entry) (start len first price one rest : ℕ) → IsPrice w m start len first price → IsBlockCost w m start first one
    → IsPartsCost w m (start + first) (len - first) (len - first) rest → price ≤ w.part + one + rest
at_least w m start len first price one rest is block after =
    let sum = is.sum in
    omega (arith, sum, is.one_least.1 one block, is.rest_least.1 rest after)

at_length : (w : Weights) (m : List Entry) (start len first price j one rest : ℕ) → j ≡ first → IsPrice w m start len first price → IsBlockCost w m start j one
    → IsPartsCost w m (start + j) (len - j) (len - j) rest → price ≤ w.part + one + rest
at_length w m start len first price j one rest same is block after =
    at_least w m start len first price one rest is (subst (λ i. IsBlockCost w m start i one) same block) (subst (λ i. IsPartsCost w m (start + i) (len - i) (len - i) rest) same after)

pub first_best : (w : Weights) (m : List Entry) (start len price : ℕ) → IsPrice w m start len 1 price → BestBelow w m start len 2 1 price
first_best w m start len price is = record {
  some = omega arith;
  within = omega arith;
  price = is;
  each = λ j one rest some below block after. at_length w m start len 1 price j one rest (omega arith) is block after;
  shorter = λ j one rest some below. absurd (omega arith);
}

pub best_same : (w : Weights) (m : List Entry) (start len k first least price : ℕ) → BestBelow w m start len k first least → IsPrice w m start len k price → least ≤ price
    → BestBelow w m start len (k + 1) first least
best_same w m start len k first least price best is le = record {
  some = best.some;
  within = omega (arith, best.within);
  price = best.price;
  each = λ j one rest some below block after. elim (cases_lt j k) [
    | inl less ↦ best.each j one rest some less block after
    | inr from ↦ omega (arith, le, at_length w m start len k price j one rest (omega arith) is block after)
  ];
  shorter = best.shorter;
}

pub best_now : (w : Weights) (m : List Entry) (start len k first least price : ℕ) → 1 ≤ k → BestBelow w m start len k first least → IsPrice w m start len k price → price < least
    → BestBelow w m start len (k + 1) k price
best_now w m start len k first least price one_at best is less = record {
  some = one_at;
  within = omega arith;
  price = is;
  each = λ j one rest some below block after. elim (cases_lt j k) [
    | inl before ↦ omega (arith, less, best.each j one rest some before block after)
    | inr from ↦ at_length w m start len k price j one rest (omega arith) is block after
  ];
  shorter = λ j one rest some below block after. omega (arith, less, best.each j one rest some below block after);
}

pub best_first : (w : Weights) (m : List Entry) (start len most k first least : ℕ) → 1 ≤ len → start + len ≤ length m → k ≡ most + 1 → most ≤ len → BestBelow w m start len k first least
    → IsFirstPart w m start len most first
best_first w m start len most k first least some inside end within best =
    let price = best.price in
    let sum = price.sum in
    record {
      some = best.some;
      within = omega (arith, best.within, end);
      rest = price.rest;
      rest_least = price.rest_least;
      least = λ one cost block h.
          omega (
            arith,
            sum,
            least_is_one (IsBlockCost w m start first) one price.one block price.one_least,
            parts_bound w m start len most least cost some inside (λ j a b pos le short one_block after. best.each j a b pos (omega (arith, end, le)) one_block after) h,
          );
      shortest = λ one cost block h.
          omega (
            arith,
            sum,
            least_is_one (IsBlockCost w m start first) one price.one block price.one_least,
            parts_bound w m start len (first - 1) (suc least) cost some inside (λ j a b pos le short one_block after. best.shorter j a b pos (omega (arith, le, best.some)) one_block after) h,
          );
    }
