-- Merges of rows: a list of places, each of which joins the row that stands there at its turn with the next one.
use Rattle.std.specs.Prelude.{◌≡◌, ◌≢◌, ℕ, zero, suc, ◌+◌, ◌-◌, ◌/◌, ◌<◌, ◌≤◌, min, List, [], ◌∷◌, ◌++◌, length, slice_index}
use Rattle.dt_offsets.specs.Offsets.{below}

-- the row at a place and the next one are replaced by what they are joined to
abbrev pub merged_at : {A : Type 0} → (A → A → A) → ℕ → List A → List A
merged_at op zero (a ∷ b ∷ rows) = op a b ∷ rows
merged_at op (suc k) (a ∷ rows) = a ∷ merged_at op k rows
merged_at op k rows = rows

-- one merge after another
abbrev pub merged : {A : Type 0} → (A → A → A) → List ℕ → List A → List A
merged op [] rows = rows
merged op (k ∷ merges) rows = merged op merges (merged_at op k rows)

-- member i is good among n rows: at its turn, when i of the rows are gone, there is a row at its place, and a next one
abbrev pub IsGood : ℕ → List ℕ → ℕ → Type 0
IsGood n merges i = slice_index merges i + 1 < n - i

-- merges bracket n rows: each member is good, and one row is left
pub record Bracket (n : ℕ) (merges : List ℕ) : Type 0 where
  pub count : length merges + 1 ≡ n
  pub good : (i : ℕ) → i < length merges → IsGood n merges i

-- how many members can have a turn
abbrev pub turns : ℕ → List ℕ → ℕ
turns n merges = min (length merges) (n - 1)

-- the first member that isn't good, of so many
pub record IsFirstBad (n : ℕ) (merges : List ℕ) (turns at : ℕ) : Type 0 where
  pub before : (i : ℕ) → i < at → IsGood n merges i
  pub within : at < turns
  pub here : ¬ IsGood n merges at

-- merges don't bracket n rows, and this shows at a place: of the members that can have a turn it is that of the first which isn't good;
-- where all are good, there are too few or too many members, and it is behind those
pub record ShowsAt (n : ℕ) (merges : List ℕ) (at : ℕ) : Type 0 where
  pub before : (i : ℕ) → i < at → IsGood n merges i
  pub within : at ≤ turns n merges
  pub here : at < turns n merges → ¬ IsGood n merges at
  pub behind : at ≡ turns n merges → length merges + 1 ≢ n

-- the merges of n rows by halves: of one row none; else the first n / 2 pairs of neighbours, and then those of what is left
pub data AreHalves : ℕ → List ℕ → Type 0 where
  one : AreHalves 1 []
  more : (n : ℕ) (rest : List ℕ) → 1 < n → AreHalves (n - n / 2) rest → AreHalves n (below (n / 2) ++ rest)
