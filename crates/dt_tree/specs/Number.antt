use Rattle.std.specs.Prelude.{ℕ, min}

-- a number that stands still at 2^64
abbrev pub capped : ℕ → ℕ
capped n = min n 18446744073709551616
