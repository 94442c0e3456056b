use Rattle.std.specs.Prelude.{◌^◌, ◌≤◌, ℤ, nat_abs}

-- from a lower bound in range to an upper bound in range: at most 2^61 in absolute value
abbrev pub IsExtent : ℤ → Type 0
IsExtent x = nat_abs x ≤ 2 ^ 61

-- the place of a copy, which sums with bounds can't take out of an i128: at most 2^94 in absolute value
abbrev pub IsPlace : ℤ → Type 0
IsPlace x = nat_abs x ≤ 2 ^ 94
