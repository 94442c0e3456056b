-- Texts of version 1. Nothing behind their entries is looked at, since they claim less.
use Rattle.std.specs.Prelude.{◌≡◌, ℕ, ◌≤◌, List, [], ◌∷◌, ◌++◌, length, codes}
use Rattle.std.specs.List.{All, flat_map}
use Rattle.dt_map.specs.declared.entry.Entry.{Entry}
use Rattle.dt_map.specs.Limits.{EntryFits}
use Rattle.dt_tree.specs.Weights.{Weights, AreLight}
use Rattle.dt_spelling.specs.Reading.{Reader, ◌>>=◌, give, item_at}
use Rattle.dt_spelling.specs.Spelling.{Words}
use Rattle.dt_cert.specs.Text.{text_of_line, weights_line, map_lines}
use Rattle.dt_verdict.specs.Cut.{lines_in}
use Rattle.dt_verdict.specs.Fault.{IsFirstWrong}
use Rattle.dt_verdict.specs.Lines.{line_as}
use Rattle.dt_verdict.specs.Reading.{is_word, weights_at}
use Rattle.dt_verdict.specs.Whole.{map_at}

-- the first line says version 1
abbrev pub IsOld : List ℕ → Type 0
IsOld text = (behind : List ℕ) × (text ≡ codes "dtcert 1\n" ++ behind)

-- the lines up to the entries
abbrev pub old_lines : Weights → List Entry → List Words
old_lines w m = (codes "dtcert" ∷ codes "1" ∷ []) ∷ weights_line w ∷ map_lines m

-- weights and entries that certificates may have
pub record AreAllowed (w : Weights) (m : List Entry) : Type 0 where
  pub light : AreLight w
  pub few : length m ≤ 1024
  pub fit : All EntryFits m

-- a text of version 1 says these weights and entries
pub record IsOldOf (text : List ℕ) (w : Weights) (m : List Entry) : Type 0 where
  pub allowed : AreAllowed w m
  pub behind : List ℕ
  pub written : text ≡ flat_map text_of_line (old_lines w m) ++ behind

-- lines begin those of some weights and entries
pub record IsOldBegun (lines : Words) : Type 0 where
  pub weights : Weights
  pub entries : List Entry
  pub behind : Words
  pub allowed : AreAllowed weights entries
  pub written : lines_in (flat_map text_of_line (old_lines weights entries)) ≡ lines ++ behind

-- a text says no weights and entries as a text of version 1 does, and this is the first wrong line
abbrev pub IsOldRefused : List ℕ → ℕ → Type 0
IsOldRefused text line = ((w : Weights) (m : List Entry) → ¬ IsOldOf text w m) × IsFirstWrong IsOldBegun text line

-- the lines up to the entries, read one after another
unfoldable pub old_at : Reader (Weights × List Entry)
old_at = do
  version ← item_at (is_word (codes "dtcert 1"))
  weights ← item_at (line_as weights_at)
  entries ← map_at
  give (weights, entries)
