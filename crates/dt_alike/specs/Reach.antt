use Rattle.std.specs.Prelude.{◌≡◌, ℕ, suc, ◌+◌, ◌≤◌, ◌<◌, IsTrue, List, length, slice_index}
use Rattle.dt_map.specs.declared.entry.Entry.{Entry}
use Rattle.dt_map.specs.Alike.{segment, alike}

-- how far the segments from two places on are alike: so far, and no further
pub record IsReach (m : List Entry) (one other reach : ℕ) : Type 0 where
  pub inside : one + reach ≤ length m
  pub other_inside : other + reach ≤ length m
  pub same : IsTrue (alike (segment m one reach) (segment m other reach))
  pub stops : one + reach < length m → other + reach < length m → IsTrue (alike (segment m one (suc reach)) (segment m other (suc reach))) → ⊥

-- the reaches of one place with each place
pub record AreReaches (m : List Entry) (one : ℕ) (reaches : List ℕ) : Type 0 where
  pub each : length reaches ≡ length m
  pub reach : (k : ℕ) → k < length m → IsReach m one k (slice_index reaches k)
