use Rattle.std.specs.Prelude.{ℕ, List, Contains, Result, Ok, Err, drop, length, min}
use Rattle.dt_base.specs.Counter.{counted}

-- a source in memory: the bytes left, the most that a read gives, the numbers of the reads that fail, the number of the next
-- read, and its counts
pub record SourceState : Type 0 where
  pub left : List ℕ
  pub most : ℕ
  pub fail : List ℕ
  pub reads : ℕ
  pub faults : ℕ
  pub taken : ℕ

-- a new one
abbrev pub source_of : List ℕ → ℕ → List ℕ → SourceState
source_of bytes most fail = record { left = bytes; most = most; fail = fail; reads = 0; faults = 0; taken = 0 }

-- the next read is one of those that fail
abbrev pub ReadFails : SourceState → Type 0
ReadFails s = Contains s.fail s.reads

-- how many bytes a read gives that doesn't fail, into so many bytes of room
abbrev pub given_len : SourceState → ℕ → ℕ
given_len s room = min s.most (min (length s.left) room)

-- it after a read, by what that answered
abbrev pub after_read : {E : Type 0} → SourceState → Result ℕ E → SourceState
after_read s (Ok n) = record s { left = drop n s.left; reads = counted s.reads 1; taken = counted s.taken n }
after_read s (Err e) = record s { reads = counted s.reads 1; faults = counted s.faults 1 }
