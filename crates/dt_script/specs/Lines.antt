-- The lines of a script: where each ends, and which carriage return is dropped.
use Rattle.std.specs.Prelude.{ℕ, ◌-◌, ◌==◌, nat_eq, take, length, if◌then◌else◌, List, [], ◌∷◌, map}
use Rattle.std.specs.List.{ends_with}

-- a byte put in front of the first of some lines
abbrev pub onto_first_line : ℕ → List (List ℕ) → List (List ℕ)
onto_first_line b [] = (b ∷ []) ∷ []
onto_first_line b (line ∷ lines) = (b ∷ line) ∷ lines

-- the lines of an input as they stand there: each line feed ends one, and so does the end where bytes stand before it
abbrev pub raw_lines : List ℕ → List (List ℕ)
raw_lines [] = []
raw_lines (b ∷ bytes) = if b == 10 then [] ∷ raw_lines bytes else onto_first_line b (raw_lines bytes)

-- a line without the one carriage return at its end, where it has one
abbrev pub without_return : List ℕ → List ℕ
without_return line = if ends_with nat_eq line (13 ∷ []) then take (length line - 1) line else line

-- the lines of a script
abbrev pub script_lines : List ℕ → List (List ℕ)
script_lines input = map without_return (raw_lines input)
