use Rattle.std.specs.Prelude.{◌≡◌, ◌↔◌, ℕ, ◌≤◌, ◌<◌, IsTrue, List, length}
use Rattle.dt_map.specs.declared.entry.Entry.{Entry}
use Rattle.dt_map.specs.Alike.{segment, alike}
use Rattle.dt_alike.specs.First.{first_alike, class_of}

-- the segment at the first start is alike, and none before it is
abbrev pub FirstIsLeast : Type 0
FirstIsLeast =
    (m : List Entry) (start len : ℕ) → (first_alike m start len ≤ start)
    × IsTrue (alike (segment m (first_alike m start len) len) (segment m start len))
    × ((k : ℕ) → k < first_alike m start len → IsTrue (alike (segment m k len) (segment m start len)) → ⊥)

-- segments have one class exactly where they are alike
abbrev pub ClassesAreAlike : Type 0
ClassesAreAlike =
    (m : List Entry) (one other len size : ℕ) → one < length m → other < length m
    → (class_of m one len ≡ class_of m other size) ↔ ((len ≡ size) × IsTrue (alike (segment m one len) (segment m other size)))
