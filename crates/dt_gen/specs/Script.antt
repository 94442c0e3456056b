-- The script of a number.
use Rattle.std.specs.Prelude.{ℕ, zero, suc, ◌+◌, ◌-◌, ◌*◌, ◌%◌, ◌==◌, min, if◌then◌else◌, List, [], ◌∷◌, ◌++◌, flat_map, slice_index_or, codes, decimal}
use Rattle.hex.specs.Hex.{encode_lower}
use Rattle.dt_kinds.specs.declared.kind.Kind.{Kind}
use Rattle.dt_kinds.specs.declared.kind.Kind.TheVariants.{Byte}
use Rattle.dt_kinds.specs.Kind.{name_of, native_size}
use Rattle.dt_kinds.specs.Name.{kinds}
use Rattle.dt_gen.specs.declared.round.Round.{Round}
use Rattle.dt_gen.specs.Draws.{Drawing, ◌>>=◌, give, draw}

-- a word behind a space, and a line of words
abbrev pub spaced : List ℕ → List ℕ
spaced word = codes " " ++ word

unfoldable pub line : List ℕ → List (List ℕ) → List ℕ
line first words = first ++ flat_map spaced words ++ codes "\n"

-- a letter and a number
abbrev pub name : List ℕ → ℕ → List ℕ
name letter number = letter ++ decimal number

-- a round: a kind, a vector of so many blocks of so many copies, so many copies from block to block, and so many rows of it with a gap
abbrev pub round_at : Drawing Round
round_at = do
  kind ← draw 23
  count ← draw 6
  block ← draw 4
  more ← draw 4
  rows ← draw 4
  gap ← draw 3
  give (record {
    kind = slice_index_or kinds kind Byte;
    count = 2 + count;
    block = 1 + block;
    stride = 1 + block + more;
    rows = 2 + rows;
    gap = gap;
  })

-- the bytes of a row, from row to row, of all rows, and of all elements
abbrev pub row_len : Round → ℕ
row_len d = ((d.count - 1) * d.stride + d.block) * native_size d.kind

abbrev pub row_step : Round → ℕ
row_step d = row_len d + 8 * d.gap

abbrev pub rows_len : Round → ℕ
rows_len d = (d.rows - 1) * row_step d + row_len d

abbrev pub packed_len : Round → ℕ
packed_len d = d.rows * d.count * d.block * native_size d.kind

-- the lines of a round's types, of its buffers, and of its sessions
unfoldable pub vector_line : ℕ → Round → List ℕ
vector_line r d =
    line (codes "type")
    (name (codes "v") r ∷ codes "=" ∷ codes "vector" ∷ decimal d.count ∷ decimal d.block ∷ decimal d.stride ∷ name_of d.kind ∷ [])

unfoldable pub rows_line : ℕ → Round → List ℕ
rows_line r d =
    line (codes "type")
    (name (codes "h") r ∷ codes "=" ∷ codes "hvector" ∷ decimal d.rows ∷ codes "1" ∷ decimal (row_step d) ∷ name (codes "v") r ∷ [])

unfoldable pub type_lines : ℕ → Round → List ℕ
type_lines r d = vector_line r d ++ rows_line r d ++ line (codes "commit") (name (codes "h") r ∷ [])

unfoldable pub buffer_lines : ℕ → Round → List ℕ
buffer_lines r d =
    line (codes "buffer") (name (codes "b") r ∷ codes "count" ∷ decimal (rows_len d) ∷ [])
    ++ line (codes "buffer") (name (codes "z") r ∷ codes "zero" ∷ decimal (rows_len d) ∷ [])

unfoldable pub session_line : List ℕ → List ℕ → List ℕ → ℕ → List ℕ
session_line first session buffer r =
    line first (name session r ∷ codes "native" ∷ codes "1" ∷ name (codes "h") r ∷ name buffer r ∷ codes "0" ∷ [])

unfoldable pub session_lines : ℕ → List ℕ
session_lines r = session_line (codes "pack") (codes "p") (codes "b") r ++ session_line (codes "unpack") (codes "u") (codes "z") r

-- the bytes that a round gives, so many from some byte on
unfoldable pub piece : ℕ → ℕ → ℕ → List ℕ
piece r at zero = []
piece r at (suc n) = (7 * at + r) % 256 ∷ piece r (suc at) n

-- the lines of a turn: so many bytes are asked for, and so many are given from some byte on
unfoldable pub turn_lines : ℕ → ℕ → ℕ → ℕ → List ℕ
turn_lines r asked at len =
    line (codes "take") (name (codes "p") r ∷ decimal asked ∷ [])
    ++ line (codes "give") (name (codes "u") r ∷ encode_lower (piece r at len) ∷ [])

-- turns, so many at most, until all bytes from some byte on are given, of which so many are left
unfoldable pub turns_at : ℕ → ℕ → ℕ → ℕ → Drawing (List ℕ)
turns_at zero r at left = give []
turns_at (suc turns) r at zero = give []
turns_at (suc turns) r at (suc left) = do
  more ← draw 97
  later ← turns_at turns r (at + min (1 + more) (suc left)) (suc left - min (1 + more) (suc left))
  give (turn_lines r (1 + more) at (min (1 + more) (suc left)) ++ later)

unfoldable pub end_lines : ℕ → List ℕ
end_lines r =
    line (codes "close") (name (codes "p") r ∷ [])
    ++ line (codes "close") (name (codes "u") r ∷ [])
    ++ line (codes "normalise") (name (codes "h") r ∷ [])

-- a round, whose turns are as many as its bytes at most
unfoldable pub round_text_at : ℕ → Drawing (List ℕ)
round_text_at r = do
  d ← round_at
  turns ← turns_at (packed_len d) r 0 (packed_len d)
  give (type_lines r d ++ buffer_lines r d ++ session_lines r ++ turns ++ end_lines r)

-- so many rounds, from some number on
unfoldable pub rounds_at : ℕ → ℕ → Drawing (List ℕ)
rounds_at zero r = give []
rounds_at (suc n) r = do
  text ← round_text_at r
  later ← rounds_at n (suc r)
  give (text ++ later)

-- so many displacements, from some number on, each behind a space
unfoldable pub places_at : ℕ → ℕ → Drawing (List ℕ)
places_at zero i = give []
places_at (suc n) i = do
  more ← draw 2
  later ← places_at n (suc i)
  give (spaced (decimal (3 * i + more)) ++ later)

-- a type of as many entries as a least tree is looked for
unfoldable pub big_at : Drawing (List ℕ)
big_at = do
  places ← places_at 1024 0
  give (codes "type big = indexed_block MPI_SHORT 1" ++ places ++ codes "\nnormalise big\n")

unfoldable pub script_at : Drawing (List ℕ)
script_at = do
  rounds ← rounds_at 100 0
  big ← big_at
  give (rounds ++ big)

-- the script of a number
abbrev pub script_of : ℕ → List ℕ
script_of n = (script_at n).0
