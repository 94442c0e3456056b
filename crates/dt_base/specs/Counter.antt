use Rattle.std.specs.Prelude.{ℕ, ◌+◌, ◌-◌, ◌^◌, ◌≤◌, min, max}

-- a count that rises by n, up to 2^64 - 1, where it stays
abbrev pub counted : ℕ → ℕ → ℕ
counted before n = max before (min (before + n) (2 ^ 64 - 1))

-- a count rose: it is greater now, or stands at its last value
abbrev pub Rose : ℕ → ℕ → Type 0
Rose before now = min (before + 1) (2 ^ 64 - 1) ≤ now
