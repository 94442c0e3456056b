-- Numbers for the segments of a list of entries: a row for each length, the shorter first, with a number for each start.
use Rattle.std.specs.Prelude.{◌≡◌, ℕ, zero, suc, ◌-◌, ◌≤◌, ◌<◌, ◌==◌, ◌&&◌, cond, List, [], ◌∷◌, length, slice_index}
use Rattle.std.specs.Global.{Vec}
use Rattle.dt_normal.specs.Table.{Table}

abbrev pub row_at : List (Vec ℕ) → ℕ → List ℕ
row_at [] k = []
row_at (row ∷ rows) zero = row.items
row_at (row ∷ rows) (suc k) = row_at rows k

-- the number of a segment, 0 where there is none
abbrev pub table_in : List (Vec ℕ) → ℕ → ℕ → ℕ
table_in rows start zero = 0
table_in rows start (suc k) = slice_index (row_at rows k) start

-- the rows of the first lengths, for so many entries
pub record AreRows (entries : ℕ) (rows : List (Vec ℕ)) : Type 0 where
  pub few : length rows ≤ entries
  pub row : (k : ℕ) → k < length rows → length (row_at rows k) ≡ entries - k

-- numbers that leave room for the weights of a node
abbrev pub AreFew : List (Vec ℕ) → Type 0
AreFew rows = (start len : ℕ) → table_in rows start len ≤ 2049000000

-- a table with another value at one segment
abbrev pub with_value : Table → ℕ → ℕ → ℕ → ℕ → ℕ → ℕ
with_value table from size value start len = cond ((from == start) && (size == len)) value (table start len)
