use Rattle.std.specs.Prelude.{◌≡◌, ℕ, ◌-◌, ◌<◌, ◌⊎◌, List, [], ◌++◌, Contains, Result, Ok, Err, length, take, min}
use Rattle.dt_base.specs.Counter.{counted}

-- a sink in memory: the bytes that it holds, how many more there is room for, the most that a write takes, the numbers of the
-- writes that fail, the number of the next write, and its count of faults
pub record SinkState : Type 0 where
  pub held : List ℕ
  pub room : ℕ
  pub most : ℕ
  pub fail : List ℕ
  pub writes : ℕ
  pub faults : ℕ

-- a new one
abbrev pub sink_of : ℕ → ℕ → List ℕ → SinkState
sink_of room most fail = record { held = []; room = room; most = most; fail = fail; writes = 0; faults = 0 }

-- the next write is one of those that fail, or has bytes for which no room is left
abbrev pub WriteFails : SinkState → List ℕ → Type 0
WriteFails s piece = Contains s.fail s.writes ⊎ ((0 < length piece) × (s.room ≡ 0))

-- how many bytes of a piece a write takes that doesn't fail
abbrev pub accepted_len : SinkState → List ℕ → ℕ
accepted_len s piece = min s.most (min s.room (length piece))

-- it after a write of a piece, by what that answered
abbrev pub after_write : {E : Type 0} → SinkState → List ℕ → Result ℕ E → SinkState
after_write s piece (Ok n) = record s { held = s.held ++ take n piece; room = s.room - n; writes = counted s.writes 1 }
after_write s piece (Err e) = record s { writes = counted s.writes 1; faults = counted s.faults 1 }
