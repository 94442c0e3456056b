use Rattle.std.specs.Prelude.{◌≡◌, ◌↔◌, ℕ, List, length}
use Rattle.dt_map.specs.declared.entry.Entry.{Entry}
use Rattle.dt_tree.specs.Weights.{Weights}
use Rattle.dt_normal.specs.Lows.{listed}
use Rattle.dt_normal.specs.Table.{Table, IsSegment, IsValid}
use Rattle.dt_check.specs.Failing.{HoldsAt, IsFirstFailing}
use Rattle.dt_check.specs.Members.{table_of}

-- a table is valid exactly where it holds at each segment
abbrev pub ValidEverywhere : Type 0
ValidEverywhere = (w : Weights) (m : List Entry) (low : Table) → IsValid w m low ↔ ((start len : ℕ) → IsSegment m start len → HoldsAt w m low start len)

-- the list of a table's values above 0 gives each segment the table's value
abbrev pub ListedIsTable : Type 0
ListedIsTable = (m : List Entry) (table : Table) (start len : ℕ) → IsSegment m start len → table_of (listed (length m) table) start len ≡ table start len

-- at most one segment is the first one at which a table fails
abbrev pub OneFirstFailing : Type 0
OneFirstFailing =
    (w : Weights) (m : List Entry) (low : Table) (start len other size : ℕ) → IsFirstFailing w m low start len → IsFirstFailing w m low other size
    → (start ≡ other) × (len ≡ size)
