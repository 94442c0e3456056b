-- Whole certificates, read from their lines.
use Rattle.std.specs.Prelude.{ℕ, ◌-◌, Bool, List, [], ◌∷◌, length, drop, Result, Ok, Err, codes, bytes_eq, if◌then◌else◌}
use Rattle.dt_map.specs.declared.entry.Entry.{Entry}
use Rattle.dt_spelling.specs.Reading.{Reader, ◌>>=◌, give, item_at}
use Rattle.dt_spelling.specs.Spelling.{Words}
use Rattle.dt_cert.specs.Certificate.{Certificate}
use Rattle.dt_cert.specs.Text.{line_feed}
use Rattle.dt_verdict.specs.Cut.{lines_from}
use Rattle.dt_verdict.specs.Lines.{line_as, version_in, entries_at}
use Rattle.dt_verdict.specs.Reading.{weights_at, number_at, base_at}
use Rattle.dt_verdict.specs.Trees.{tree_in}
use Rattle.dt_verdict.specs.Values.{values_at, before_all}

-- the number of the entries, and the entries
unfoldable pub map_at : Reader (List Entry)
map_at = do
  number ← item_at (line_as (number_at (codes "map") 1024))
  entries_at number

-- all lines of a certificate
unfoldable pub certificate_at : Reader Certificate
certificate_at = do
  version ← item_at version_in
  weights ← item_at (line_as weights_at)
  entries ← map_at
  base ← item_at (line_as base_at)
  tree ← item_at tree_in
  cost ← item_at (line_as (number_at (codes "cost") 18446744073709551615))
  values ← values_at version entries before_all
  give (record { version = version; weights = weights; entries = entries; base = base; tree = tree; cost = cost; values = values })

-- whether a text ends with a line feed
abbrev pub is_ended : List ℕ → Bool
is_ended text = bytes_eq (drop (length text - 1) text) (line_feed ∷ [])

-- no line behind a certificate, and the last one is ended
abbrev pub all_of : Bool → Result (Certificate × Words) Words → Result Certificate Words
all_of ended (Ok (c, [])) = if ended then Ok c else Err []
all_of ended (Ok (c, line ∷ lines)) = Err (line ∷ lines)
all_of ended (Err left) = Err left

-- a whole text
unfoldable pub text_read : List ℕ → Result Certificate Words
text_read text = all_of (is_ended text) (certificate_at (lines_from text 0))
