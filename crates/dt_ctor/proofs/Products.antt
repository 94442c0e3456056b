-- Products of a number of 32 bits and an extent.
use mir.Syntax.{w32, w128}
use mir.Val.{to_z, of_z}
use Rattle.std.specs.Prelude.{◌≡◌, ◌*◌, ◌^◌, ◌<◌, ◌≤◌, ℤ, ◌*ℤ◌, nat_abs, FitsSigned}
use Rattle.std.proofs.Common.{ap, ◌∙◌, arith}
use Rattle.std.proofs.lemmas.Int.{ints, to_z-of_z, unsigned_abs-mul}
use Rattle.std.proofs.Math.Nat.{mul-le-mul}

-- so many extents, as many as 32 bits tell
module _ (times extent : ℤ) (fits_times : FitsSigned w32 times) (fits_extent : FitsSigned w128 extent) (near : nat_abs extent ≤ 2 ^ 61) where
  small : nat_abs times ≤ 2 ^ 31
  small = omega (arith, ints)

  pub factor : nat_abs (times *ℤ extent) < 2 ^ 93
  factor = let bound : nat_abs times * nat_abs extent ≤ 2 ^ 31 * 2 ^ 61 = mul-le-mul small near in omega (arith, unsigned_abs-mul times extent)

  pub product_fits : FitsSigned w128 (times *ℤ extent)
  product_fits = let bound = factor in omega (arith, ints)

  pub wide_times : (r : ℤ) → r ≡ to_z w32 (of_z w32 times) → to_z w128 (of_z w128 r) *ℤ to_z w128 (of_z w128 extent) ≡ times *ℤ extent
  wide_times r e =
      let fits_r : FitsSigned w128 times = omega (arith, ints) in
      ap (λ x. to_z w128 (of_z w128 x) *ℤ to_z w128 (of_z w128 extent)) (e ∙ to_z-of_z w32 times fits_times)
      ∙ ap (λ x. x *ℤ to_z w128 (of_z w128 extent)) (to_z-of_z w128 times fits_r)
      ∙ ap (λ x. times *ℤ x) (to_z-of_z w128 extent fits_extent)
