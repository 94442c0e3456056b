use Rattle.std.specs.Prelude.{ℕ, List}
use Rattle.dt_alike.specs.First.{first_alike}
use Rattle.dt_map.specs.declared.entry.Entry.{Entry}
use Rattle.dt_normal.specs.Table.{Table}

-- the table that gives each segment the value of the first segment of its class
abbrev pub of_classes : List Entry → Table → ℕ → ℕ → ℕ
of_classes m low start len = low (first_alike m start len) len
