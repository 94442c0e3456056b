use Rattle.std.specs.Prelude.{◌≡◌, ℕ, zero, suc, ◌+◌, ◌-◌, max, cond, Bool, IsTrue, List, length}
use Rattle.dt_map.specs.declared.entry.Entry.{Entry}
use Rattle.dt_map.specs.Alike.{segment, alike}
use Rattle.dt_tree.specs.Weights.{Weights}
use Rattle.dt_normal.specs.Lows.{IsGreatest}
use Rattle.dt_normal.specs.Table.{Table, IsSegment, IsValid}

-- the greatest of the values at those numbers below n that pass a test, 0 where none does
abbrev pub greatest_below : (ℕ → Bool) → (ℕ → ℕ) → ℕ → ℕ
greatest_below test value zero = 0
greatest_below test value (suc n) = max (cond (test n) (value n) 0) (greatest_below test value n)

-- the table that gives each segment the greatest value among the segments alike to it
abbrev pub greatest_alike : List Entry → Table → ℕ → ℕ → ℕ
greatest_alike m low start len = greatest_below (λ k. alike (segment m k len) (segment m start len)) (λ k. low k len) (length m + 1 - len)

-- it is valid where the table is
abbrev pub GreatestAlikeIsValid : Type 0
GreatestAlikeIsValid = (w : Weights) (m : List Entry) (low : Table) → IsValid w m low → IsValid w m (greatest_alike m low)

-- so the greatest valid table gives alike segments one value
abbrev pub GreatestIsOfClasses : Type 0
GreatestIsOfClasses =
    (w : Weights) (m : List Entry) (table : Table) (one other len : ℕ) → IsGreatest w m table → IsSegment m one len → IsSegment m other len
    → IsTrue (alike (segment m one len) (segment m other len)) → table one len ≡ table other len
