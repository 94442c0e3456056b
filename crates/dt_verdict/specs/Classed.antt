-- Values of single segments made values of classes.
use Rattle.std.specs.Prelude.{ℕ, ◌-◌, ◌==◌, cond, max, List, [], ◌∷◌, length, slice_index}
use Rattle.std.specs.List.{filter}
use Rattle.dt_map.specs.declared.entry.Entry.{Entry}
use Rattle.dt_alike.specs.First.{first_alike, class_of}
use Rattle.dt_normal.specs.declared.low.Low.{Low}
use Rattle.dt_normal.specs.Lows.{listed}
use Rattle.dt_check.specs.Greatest.{greatest_alike}
use Rattle.dt_check.specs.Members.{table_of}
use Rattle.dt_cert.specs.Classes.{is_first}

-- of the values above 0 of the table that gives each segment the greatest value among the segments alike to it, those of first segments
abbrev pub values_by_classes : List Entry → List Low → List Low
values_by_classes m values = filter (is_first m) (listed (length m) (greatest_alike m (table_of values)))

-- the greatest value of a class, by its number, 0 where it has none
abbrev pub greatest_in : List Entry → List Low → ℕ → ℕ
greatest_in m [] class = 0
greatest_in m (a ∷ values) class = max (cond (class_of m a.from (a.to - a.from) == class) a.low 0) (greatest_in m values class)

-- what numbers of classes say of a segment that is the first one of its class; 0 of others
abbrev pub own_value : List Entry → List ℕ → ℕ → ℕ → ℕ
own_value m numbers start len = cond (first_alike m start len == start) (slice_index numbers (class_of m start len)) 0
