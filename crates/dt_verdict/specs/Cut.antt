-- A text cut into lines.
use Rattle.std.specs.Prelude.{ℕ, ◌==◌, List, [], ◌∷◌, ◌++◌, drop}
use Rattle.std.specs.List.{slice_split}
use Rattle.dt_cert.specs.Text.{line_feed}
use Rattle.dt_spelling.specs.Spelling.{Word, Words}

-- all but the last of some pieces
abbrev pub all_but_last : Words → Words
all_but_last [] = []
all_but_last (piece ∷ []) = []
all_but_last (piece ∷ next ∷ pieces) = piece ∷ all_but_last (next ∷ pieces)

-- the lines of a text, without their line feeds: what stands behind the last line feed is none
abbrev pub lines_in : List ℕ → Words
lines_in text = all_but_last (slice_split (λ b. b == line_feed) text)

-- those from some byte on
unfoldable pub lines_from : List ℕ → ℕ → Words
lines_from text at = lines_in (drop at text)

-- a line with its line feed
abbrev pub ended : Word → List ℕ
ended line = line ++ line_feed ∷ []
