use Rattle.std.specs.Prelude.{◌≡◌, ℕ, ◌+◌, ◌-◌, ◌≤◌, ◌<◌, min, List, length, slice_index}
use Rattle.std.specs.Global.{Vec}
use Rattle.dt_normal.specs.Splits.{IsLowest}
use Rattle.dt_check.specs.Rows.{table_in}

-- numbers, each the lesser of what it was and of the sum of two others, those of the second list from a place on
pub record AreLowered (firsts rests : List ℕ) (from : ℕ) (before now : List ℕ) : Type 0 where
  pub each : length now ≡ length before
  pub lowered : (i : ℕ) → i < length before → slice_index now i ≡ min (slice_index before i) (slice_index firsts i + slice_index rests (from + i))

-- the first of two parts has at most so many entries
abbrev pub IsFirst : ℕ → ℕ → Type 0
IsFirst most j = (1 ≤ j) × (j ≤ most)

-- what a first part and the cuts of the rest come to
abbrev pub two_parts : List (Vec ℕ) → List (Vec ℕ) → ℕ → ℕ → ℕ → ℕ
two_parts runs cuts start len j = table_in runs start j + table_in cuts (start + j) (len - j)

-- the least such sums of all segments of one length, by their starts
pub record AreLeastSums (entries len : ℕ) (runs cuts : List (Vec ℕ)) (most : ℕ) (sums : List ℕ) : Type 0 where
  pub each : length sums ≡ entries + 1 - len
  pub least : (start : ℕ) → start < length sums → IsLowest (IsFirst most) (two_parts runs cuts start len) 2050000000 (slice_index sums start)
