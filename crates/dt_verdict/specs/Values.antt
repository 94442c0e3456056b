-- The lines of values.
use Rattle.std.specs.Prelude.{◌-◌, ◌==◌, Bool, true, ◌&&◌, ◌||◌, nat_le, nat_lt, if◌then◌else◌, List, [], ◌∷◌, length, Option, Some, None, Result, Ok, Err, codes, bytes_eq}
use Rattle.std.specs.Option.{option_and_then}
use Rattle.dt_map.specs.declared.entry.Entry.{Entry}
use Rattle.dt_normal.specs.declared.low.Low.{Low}
use Rattle.dt_spelling.specs.Reading.{Reader, where_true, with_front}
use Rattle.dt_spelling.specs.Spelling.{Word, Words}
use Rattle.dt_cert.specs.Certificate.{Version, BySegments, ByClasses}
use Rattle.dt_cert.specs.Classes.{is_first}
use Rattle.dt_verdict.specs.Lines.{line_as}
use Rattle.dt_verdict.specs.Reading.{value_at}

abbrev pub value_name : Version → Word
value_name BySegments = codes "low"
value_name ByClasses = codes "class"

-- whether a value's segment comes after the last one's: it is longer, or as long and with a later start
abbrev pub is_later : Low → Low → Bool
is_later last a = nat_lt (last.to - last.from) (a.to - a.from) || ((last.to - last.from == a.to - a.from) && nat_lt last.from a.from)

-- whether it is the first of its class, where values are given to classes
abbrev pub is_own : Version → List Entry → Low → Bool
is_own BySegments m a = true
is_own ByClasses m a = is_first m a

-- whether a value can stand behind the last one
abbrev pub goes_on : Version → List Entry → Low → Low → Bool
goes_on version m last a = nat_lt a.from a.to && (nat_le a.to (length m) && (is_later last a && is_own version m a))

unfoldable pub value_behind : Version → List Entry → Low → Word → Option Low
value_behind version m last line = option_and_then (λ a. where_true (goes_on version m last a) a) (line_as (value_at (value_name version)) line)

abbrev pub on_value : Option Low → Words → (Low → Result (List Low × Words) Words) → Result (List Low × Words) Words
on_value None here more = Err here
on_value (Some a) here more = with_front (a ∷ []) (more a)

-- the values behind the last one, and the line `end` behind them
abbrev pub values_at : Version → List Entry → Low → Reader (List Low)
values_at version m last [] = Err []
values_at version m last (line ∷ lines) =
    if bytes_eq line (codes "end") then Ok ([], lines)
    else on_value (value_behind version m last line) (line ∷ lines) (λ a. values_at version m a lines)

-- the empty segment at 0, after which every other comes
abbrev pub before_all : Low
before_all = record { from = 0; to = 0; low = 0 }
