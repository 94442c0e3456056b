use Rattle.std.specs.Prelude.{◌≡◌, ◌↔◌, ℕ, ◌+◌, ◌*◌, ◌≤◌, ◌<◌, IsTrue, ℤ, List, length}
use Rattle.dt_map.specs.declared.entry.Entry.{Entry}
use Rattle.dt_map.specs.Runs.{placed_at, even, run}
use Rattle.dt_map.specs.Alike.{segment, are_alike, rise_by, are_stacked}

-- blocks are alike exactly where they are copies of the first one at some places
abbrev pub AlikeBlocksAreCopies : Type 0
AlikeBlocksAreCopies =
    (m : List Entry) (start len count : ℕ) → start + count * len ≤ length m → IsTrue (are_alike m start len count)
    ↔ ((places : List ℤ) × (length places ≡ count) × (segment m start (count * len) ≡ placed_at places (segment m start len)))

-- and their first displacements rise by one step exactly where these places do
abbrev pub EvenBlocksAreCopies : Type 0
EvenBlocksAreCopies =
    (m : List Entry) (start len count : ℕ) (step : ℤ) → 0 < len → start + count * len ≤ length m
    → (IsTrue (are_alike m start len count) × IsTrue (rise_by step m start len count))
    ↔ (segment m start (count * len) ≡ placed_at (even count step) (segment m start len))

-- blocks are stacked exactly where they are a block of so many copies of the first one
abbrev pub StackedBlocksAreRun : Type 0
StackedBlocksAreRun =
    (m : List Entry) (start len count : ℕ) → 0 < len → start + count * len ≤ length m → IsTrue (are_stacked m start len count)
    ↔ (segment m start (count * len) ≡ run count (segment m start len))
