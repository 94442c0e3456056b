use Rattle.std.specs.Prelude.{◌≡◌, ℕ, ◌≤◌, ◌<◌, List, length, slice_index}
use Rattle.std.specs.Global.{Vec}
use Rattle.dt_alike.specs.First.{first_alike}
use Rattle.dt_map.specs.declared.entry.Entry.{Entry}
use Rattle.dt_normal.specs.Table.{IsSegment}
use Rattle.dt_check.specs.Classes.{of_classes}
use Rattle.dt_check.specs.Rows.{AreRows, table_in}

-- for the first segments of a length what a row says of the first one of the class of each
pub record IsSpread (m : List Entry) (len count : ℕ) (row spread : List ℕ) : Type 0 where
  pub each : length spread ≡ count
  pub value : (start : ℕ) → start < count → slice_index spread start ≡ slice_index row (first_alike m start len)

-- the same of all segments up to a length
pub record AreSpread (m : List Entry) (most : ℕ) (firsts rows : List (Vec ℕ)) : Type 0 where
  pub shape : AreRows (length m) rows
  pub each : length rows ≡ most
  pub value : (start len : ℕ) → IsSegment m start len → len ≤ most → table_in rows start len ≡ of_classes m (table_in firsts) start len
