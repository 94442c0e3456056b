use Rattle.std.specs.Prelude.{ℕ, ◌+◌, ◌*◌, ◌≤◌, IsTrue, ℤ, List, length}
use Rattle.dt_map.specs.declared.entry.Entry.{Entry}
use Rattle.dt_map.specs.Alike.{are_alike, rise_by, are_stacked}

-- blocks of one length, from a place on, that are alike
abbrev pub AreAlike : List Entry → ℕ → ℕ → ℕ → Type 0
AreAlike m start len count = IsTrue (are_alike m start len count)

-- and whose first displacements rise by one step, which may be negative
abbrev pub AreEven : List Entry → ℕ → ℕ → ℕ → Type 0
AreEven m start len count = IsTrue (are_alike m start len count) × ((step : ℤ) × IsTrue (rise_by step m start len count))

-- and which stand as copies of the first one in a block of a datatype do
abbrev pub AreStacked : List Entry → ℕ → ℕ → ℕ → Type 0
AreStacked m start len count = IsTrue (are_stacked m start len count)

-- the greatest number of blocks inside the list of which something holds, where it holds of fewer too
pub record IsRun (Holds : ℕ → Type 0) (m : List Entry) (start len run : ℕ) : Type 0 where
  pub some : 1 ≤ run
  pub inside : start + run * len ≤ length m
  pub holds : (count : ℕ) → count ≤ run → Holds count
  pub stops : (count : ℕ) → start + count * len ≤ length m → Holds count → count ≤ run
