-- How great the products of a count and a factor are, and their sign.
use Rattle.std.specs.Prelude.{◌≡◌, ℕ, suc, ◌+◌, ◌*◌, ◌^◌, ◌<◌, ◌≤◌, ℤ, pos, negsuc, ◌+ℤ◌, ◌*ℤ◌, nat_abs, FitsSigned}
use Rattle.std.proofs.Common.{ap, ◌∙◌, arith}
use Rattle.std.proofs.Math.IntN.{neg_ℤ, pos-*ℤ-pos, pos-*ℤ-negsuc}
use Rattle.std.proofs.Math.Nat.{mul-le-mul_left}
use lib.Signed.{mag}
use mir.Syntax.{w128}
use mir.Val.{to_z, of_z}
use Rattle.std.proofs.lemmas.Int.{ints, to_z-of_z}
use Rattle.dt_offsets.specs.Near.{IsFactor}

size_of_neg : (n : ℕ) → nat_abs (neg_ℤ (pos n)) ≡ n
size_of_neg n = omega (arith, ints)

pub size_of_product : (n : ℕ) (x : ℤ) → nat_abs (pos n *ℤ x) ≡ n * nat_abs x
size_of_product n (pos m) = ap nat_abs (pos-*ℤ-pos n m)
size_of_product n (negsuc m) = ap nat_abs (pos-*ℤ-negsuc n m) ∙ size_of_neg (n * suc m)

pub product_near : (n : ℕ) (x : ℤ) → IsFactor x → nat_abs (pos n *ℤ x) ≤ n * 2 ^ 93
product_near n x factor =
    let small : nat_abs x ≤ 2 ^ 93 = omega arith in
    let bound : n * nat_abs x ≤ n * 2 ^ 93 = mul-le-mul_left n small in
    omega (arith, size_of_product n x)

-- products and sums that fit 128 bits, read back from them
module _ (first step : ℤ) (n : ℕ) (factor : IsFactor step) (near : nat_abs first + n * 2 ^ 93 < 2 ^ 126) where
  pub far_fits : FitsSigned w128 (pos n *ℤ step)
  far_fits = let h = product_near n step factor in omega (arith, ints)

  pub along_fits : FitsSigned w128 (first +ℤ (pos n *ℤ step))
  along_fits = let h = product_near n step factor in omega (arith, ints)

  pub read_back : FitsSigned w128 first → FitsSigned w128 step → (r : ℤ) → r ≡ pos n
      → to_z w128 (of_z w128 first) +ℤ to_z w128 (of_z w128 (to_z w128 (of_z w128 r) *ℤ to_z w128 (of_z w128 step))) ≡ first +ℤ (pos n *ℤ step)
  read_back fits_first fits_step r e =
      let fits_r : FitsSigned w128 r = omega (arith, ints) in
      let factors : to_z w128 (of_z w128 r) *ℤ to_z w128 (of_z w128 step) ≡ pos n *ℤ step =
      ap (λ x. x *ℤ to_z w128 (of_z w128 step)) (to_z-of_z w128 r fits_r ∙ e) ∙ ap (λ x. pos n *ℤ x) (to_z-of_z w128 step fits_step) in
      ap (λ x. x +ℤ to_z w128 (of_z w128 (to_z w128 (of_z w128 r) *ℤ to_z w128 (of_z w128 step)))) (to_z-of_z w128 first fits_first)
      ∙ ap (λ x. first +ℤ to_z w128 (of_z w128 x)) factors
      ∙ ap (λ x. first +ℤ x) (to_z-of_z w128 (pos n *ℤ step) far_fits)

-- a number of 128 bits, read back
pub same128 : (z : ℤ) → mag z < 2 ^ 127 → to_z w128 (of_z w128 z) ≡ z
same128 z fits = to_z-of_z w128 z (record { sfits = fits })

pub factor_back : (x : ℤ) → IsFactor x → to_z w128 (of_z w128 x) ≡ x
factor_back x factor = to_z-of_z w128 x (omega (arith, ints))

pub near_fits : (x : ℤ) → nat_abs x < 2 ^ 126 → FitsSigned w128 x
near_fits x near = omega (arith, ints)
