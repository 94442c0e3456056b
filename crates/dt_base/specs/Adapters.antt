use Rattle.std.specs.Prelude.{ℕ, Option, List, Result, Ok, Err, take}
use Rattle.std.specs.Io.KnownBytes.{Appends}
use Rattle.dt_base.specs.Counter.{counted}
use Rattle.dt_base.specs.Transfer.{AppendsFront}

-- a source over a reader of std: the reader, and its counts
pub record OverReader (R : Type 0) : Type 0 where
  pub reader : R
  pub faults : ℕ
  pub taken : ℕ

-- a sink over a writer of std: the writer, and its count of faults
pub record OverWriter (W : Type 0) : Type 0 where
  pub writer : W
  pub faults : ℕ

-- the count of faults after a call, by what that answered
abbrev pub faults_after : {E : Type 0} → ℕ → Result ℕ E → ℕ
faults_after faults (Ok n) = faults
faults_after faults (Err e) = counted faults 1

-- a write and a flush appended the n bytes of a piece that they took at Ok(n), and at Err a front of it, since the flush may have failed
abbrev pub PassesOn : {E : Type 0} → Option (List ℕ) → Option (List ℕ) → Result ℕ E → List ℕ → Type 0
PassesOn old new (Ok n) piece = Appends old new (take n piece)
PassesOn old new (Err e) piece = AppendsFront old new piece
