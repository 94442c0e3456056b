-- a displacement in range is an i64, which code shows converted to its bits and back
use Rattle.std.proofs.Common.{◌≡◌, ℤ, to_z, of_z, w64, arith}
use Rattle.std.proofs.lemmas.Int.{ints}
use Rattle.dt_kinds.specs.Displacement.{FitsDisp}

pub same_disp : (x : ℤ) → FitsDisp x → to_z w64 (of_z w64 x) ≡ x
same_disp x f = omega (arith, ints, f.0, f.1)
