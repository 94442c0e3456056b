use Rattle.std.specs.Prelude.{◌≡◌, ℕ, suc, ◌+◌, ◌*◌, ◌<◌, List, length, slice_index, unwrap_or}
use Rattle.std.specs.List.{find}
use Rattle.dt_offsets.specs.Offsets.{below}
use Rattle.dt_map.specs.declared.entry.Entry.{Entry}
use Rattle.dt_map.specs.Alike.{segment, alike}

-- the least start of a segment of that length that is alike: one before, or the segment's own
abbrev pub first_alike : List Entry → ℕ → ℕ → ℕ
first_alike m start len = unwrap_or (find (λ k. alike (segment m k len) (segment m start len)) (below start)) start

-- the number of a segment's class: the place of the first segment in it, where a row of all starts stands for each length
abbrev pub class_of : List Entry → ℕ → ℕ → ℕ
class_of m start len = len * length m + first_alike m start len

-- the first starts of all segments that begin at a place, the shorter first
pub record AreFirsts (m : List Entry) (start : ℕ) (firsts : List ℕ) : Type 0 where
  pub each : start + length firsts ≡ length m
  pub first : (k : ℕ) → k < length firsts → slice_index firsts k ≡ first_alike m start (suc k)
