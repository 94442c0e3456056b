use Rattle.std.specs.Prelude.{◌≡◌, ℕ, suc, ◌+◌, ◌-◌, ◌≤◌, nat_lt, List, map, length}
use Rattle.std.specs.List.{filter, flat_map}
use Rattle.dt_offsets.specs.Offsets.{below}
use Rattle.dt_map.specs.declared.entry.Entry.{Entry}
use Rattle.dt_tree.specs.Weights.{Weights}
use Rattle.dt_normal.specs.declared.low.Low.{Low}
use Rattle.dt_normal.specs.Costs.{IsLeastOf, IsTreeCost}
use Rattle.dt_normal.specs.Table.{Table, IsSegment, IsValid}

-- a segment with its value
abbrev pub low_of : Table → ℕ → ℕ → Low
low_of table len start = record { from = start; to = start + len; low = table start len }

-- the segments of one length whose values are above 0, by their starts
abbrev pub listed_at : ℕ → Table → ℕ → List Low
listed_at n table len = filter (λ (a : Low). nat_lt 0 a.low) (map (low_of table len) (below (n + 1 - len)))

-- the segments of n entries whose values are above 0, the shorter first, then by their starts
abbrev pub listed : ℕ → Table → List Low
listed n table = flat_map (λ k. listed_at n table (suc k)) (below n)

-- a table of what the cheapest trees of all segments cost
abbrev pub AreLeastCosts : Weights → List Entry → Table → Type 0
AreLeastCosts w m table = (start len : ℕ) → IsSegment m start len → IsLeastOf (IsTreeCost w m start len) (table start len)

-- a valid table that no other one exceeds at any segment
pub record IsGreatest (w : Weights) (m : List Entry) (table : Table) : Type 0 where
  pub valid : IsValid w m table
  pub greatest : (other : Table) → IsValid w m other → (start len : ℕ) → IsSegment m start len → other start len ≤ table start len

-- the list of the greatest valid table
abbrev pub IsLeastTable : Weights → List Entry → List Low → Type 0
IsLeastTable w m lows = (table : Table) × IsGreatest w m table × (lows ≡ listed (length m) table)
