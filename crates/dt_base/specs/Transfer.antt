use Rattle.std.specs.Prelude.{◌≡◌, ℕ, ◌<◌, ◌≤◌, Option, Some, Result, List, [], length, take, drop, IfSome, IfOk, MatchResult}
use Rattle.std.specs.Io.KnownBytes.{Appends, Consumes}
use Rattle.dt_base.specs.Counter.{counted}

-- a read wrote the n bytes that it gave at Ok(n) over the front of a buffer, and kept the rest; at Err it kept all of it
abbrev pub KeepsRest : {E : Type 0} → Result ℕ E → List ℕ → List ℕ → Type 0
KeepsRest r old new = MatchResult r (λ n. drop n new ≡ drop n old) (λ _. new ≡ old)

-- a write took some of a piece that has some
abbrev pub TakesSome : {E : Type 0} → Result ℕ E → List ℕ → Type 0
TakesSome r piece = IfOk r (λ n. 0 < length piece → 0 < n)

-- known bytes grow by a front of a piece
abbrev pub AppendsFront : Option (List ℕ) → Option (List ℕ) → List ℕ → Type 0
AppendsFront old new piece = (n : ℕ) × (n ≤ length piece) × Appends old new (take n piece)

-- known bytes were read to their end: bytes are all of them, and none is left
abbrev pub ReadsAll : Option (List ℕ) → Option (List ℕ) → List ℕ → Type 0
ReadsAll old new bytes = IfSome old (λ left. (bytes ≡ left) × (new ≡ Some []))

-- some bytes were taken: the known bytes lose them from their front, and the count of bytes taken rises by as many
abbrev pub TakesFront : Option (List ℕ) → Option (List ℕ) → ℕ → ℕ → Type 0
TakesFront old new before now = (bytes : List ℕ) × Consumes old new bytes × (now ≡ counted before (length bytes))
