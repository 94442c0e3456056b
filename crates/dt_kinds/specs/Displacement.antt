use Rattle.std.specs.Prelude.{ℤ, pos, ◌-ℤ◌, ◌≤ℤ◌}
use Rattle.dt_kinds.specs.declared.displacement.TheConstants.{DISP_MAX}

-- a displacement, a bound or a size in range: its absolute value is at most 2^60
abbrev pub FitsDisp : ℤ → Type 0
FitsDisp x = ((pos 0 -ℤ DISP_MAX) ≤ℤ x) × (x ≤ℤ DISP_MAX)
