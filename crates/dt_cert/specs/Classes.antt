use Rattle.std.specs.Prelude.{ℕ, ◌-◌, ◌==◌, Bool, List, [], ◌∷◌}
use Rattle.std.specs.List.{All}
use Rattle.dt_alike.specs.First.{first_alike}
use Rattle.dt_map.specs.declared.entry.Entry.{Entry}
use Rattle.dt_normal.specs.declared.low.Low.{Low}
use Rattle.dt_check.specs.Classes.{of_classes}
use Rattle.dt_check.specs.Failing.{IsBefore}
use Rattle.dt_check.specs.Members.{table_of}
use Rattle.dt_cert.specs.Certificate.{Version, BySegments, ByClasses}

-- a member names the first segment of its class
abbrev pub is_first : List Entry → Low → Bool
is_first m a = first_alike m a.from (a.to - a.from) == a.from

-- one member's segment comes before another's: it is shorter, or as long and with an earlier start
abbrev pub IsEarlier : Low → Low → Type 0
IsEarlier a b = IsBefore a.from (a.to - a.from) b.from (b.to - b.from)

-- each before all that follow it
abbrev pub AreRising : List Low → Type 0
AreRising [] = Unit {0}
AreRising (a ∷ lows) = All (IsEarlier a) lows × AreRising lows

-- what a list of values says of a segment: its own value, or that of its class
abbrev pub value_in : Version → List Entry → List Low → ℕ → ℕ → ℕ
value_in BySegments m values start len = table_of values start len
value_in ByClasses m values start len = of_classes m (table_of values) start len
