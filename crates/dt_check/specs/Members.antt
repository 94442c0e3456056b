use Rattle.std.specs.Prelude.{ℕ, ◌-◌, ◌≤◌, ◌<◌, ◌==◌, Bool, ◌&&◌, cond, List, [], ◌∷◌, length}
use Rattle.dt_map.specs.declared.entry.Entry.{Entry}
use Rattle.dt_normal.specs.declared.low.Low.{Low}

-- a member of a table's list names a segment that isn't empty
abbrev pub IsMember : List Entry → Low → Type 0
IsMember m a = (a.from < a.to) × (a.to ≤ length m)

-- whether it names this one
abbrev pub names : Low → ℕ → ℕ → Bool
names a start len = (a.from == start) && (a.to - a.from == len)

-- the table of a list: a segment has the value of the first member that names it, and 0 where none does
abbrev pub table_of : List Low → ℕ → ℕ → ℕ
table_of [] start len = 0
table_of (a ∷ lows) start len = cond (names a start len) a.low (table_of lows start len)
