-- Products of sums and of products.
use Rattle.std.specs.Prelude.{◌≡◌, ℕ, zero, suc, ℤ, pos, negsuc, ◌+ℤ◌, ◌-ℤ◌, ◌*ℤ◌}
use Rattle.std.proofs.Common.{sym, ap, ◌∙◌, arith}
use Rattle.std.proofs.lemmas.Int.{ints}
use Rattle.std.proofs.Math.IntN.{suc_ℤ-*ℤ, pred_ℤ-*ℤ, zero-*ℤ, +ℤ_idr, suc_ℤ, pred_ℤ, +ℤ-suc_ℤ, +ℤ-pred_ℤ}

after : (x y z : ℤ) → (x +ℤ y) +ℤ z ≡ x +ℤ (y +ℤ z)
after x y z = omega (arith, ints)

before : (x y z : ℤ) → (x +ℤ y) -ℤ z ≡ x +ℤ (y -ℤ z)
before x y z = omega (arith, ints)

module _ (a c : ℤ) where
  abbrev Spreads : ℤ → Type 0
  Spreads b = (a +ℤ b) *ℤ c ≡ (a *ℤ c) +ℤ (b *ℤ c)

  at_zero : Spreads (pos zero)
  at_zero = ap (λ x. x *ℤ c) (+ℤ_idr a) ∙ sym (ap (λ x. (a *ℤ c) +ℤ x) (zero-*ℤ c) ∙ +ℤ_idr (a *ℤ c))

  one_less : (b : ℤ) → Spreads b → (a +ℤ pred_ℤ b) *ℤ c ≡ (a *ℤ c) +ℤ (pred_ℤ b *ℤ c)
  one_less b h =
      ap (λ x. x *ℤ c) (+ℤ-pred_ℤ a b) ∙ pred_ℤ-*ℤ (a +ℤ b) c ∙ ap (λ x. x -ℤ c) h ∙ before (a *ℤ c) (b *ℤ c) c ∙ ap (λ x. (a *ℤ c) +ℤ x) (sym (pred_ℤ-*ℤ b c))

  one_more : (b : ℤ) → Spreads b → (a +ℤ suc_ℤ b) *ℤ c ≡ (a *ℤ c) +ℤ (suc_ℤ b *ℤ c)
  one_more b h =
      ap (λ x. x *ℤ c) (+ℤ-suc_ℤ a b) ∙ suc_ℤ-*ℤ (a +ℤ b) c ∙ ap (λ x. x +ℤ c) h ∙ after (a *ℤ c) (b *ℤ c) c ∙ ap (λ x. (a *ℤ c) +ℤ x) (sym (suc_ℤ-*ℤ b c))

  pub sum_times : (b : ℤ) → Spreads b
  sum_times (pos zero) = at_zero
  sum_times (pos (suc n)) = one_more (pos n) (sum_times (pos n))
  sum_times (negsuc zero) = one_less (pos zero) at_zero
  sum_times (negsuc (suc n)) = one_less (negsuc n) (sum_times (negsuc n))

pub product_times : (n : ℕ) (b c : ℤ) → (pos n *ℤ b) *ℤ c ≡ pos n *ℤ (b *ℤ c)
product_times zero b c = ap (λ x. x *ℤ c) (zero-*ℤ b) ∙ zero-*ℤ c ∙ sym (zero-*ℤ (b *ℤ c))
product_times (suc n) b c =
    ap (λ x. x *ℤ c) (suc_ℤ-*ℤ (pos n) b) ∙ sum_times (pos n *ℤ b) c b ∙ ap (λ x. x +ℤ (b *ℤ c)) (product_times n b c) ∙ sym (suc_ℤ-*ℤ (pos n) (b *ℤ c))
