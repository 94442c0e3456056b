-- Products of natural numbers with an integer.
use Rattle.std.specs.Prelude.{◌≡◌, ℕ, ◌+◌, ◌*◌, ℤ, pos, ◌+ℤ◌, ◌*ℤ◌}
use Rattle.std.proofs.Common.{sym, ap, ◌∙◌, arith}
use Rattle.std.proofs.lemmas.Int.{ints}
use Rattle.std.proofs.Math.IntN.{pos-*ℤ-pos}
use Rattle.dt_type.proofs.Times.{sum_times, product_times}

times_sum : (m n : ℕ) (x : ℤ) → pos (m + n) *ℤ x ≡ (pos m *ℤ x) +ℤ (pos n *ℤ x)
times_sum m n x =
    let apart : pos (m + n) ≡ pos m +ℤ pos n = omega (arith, ints) in
    ap (λ k. k *ℤ x) apart ∙ sum_times (pos m) x (pos n)

pub times_product : (m n : ℕ) (x : ℤ) → pos (m * n) *ℤ x ≡ pos m *ℤ (pos n *ℤ x)
times_product m n x = ap (λ k. k *ℤ x) (sym (pos-*ℤ-pos m n)) ∙ product_times m (pos n) x

-- the offset of an index in a block of a dimension
pub block_times : (first block jump place : ℕ) (x : ℤ)
    → ((pos first *ℤ x) +ℤ (pos block *ℤ (pos jump *ℤ x))) +ℤ (pos place *ℤ x) ≡ pos ((first + block * jump) + place) *ℤ x
block_times first block jump place x =
    sym (times_sum (first + block * jump) place x
    ∙ ap (λ y. y +ℤ (pos place *ℤ x)) (times_sum first (block * jump) x ∙ ap (λ y. (pos first *ℤ x) +ℤ y) (times_product block jump x)))

-- the offset of an index in an outer dimension and a place in the inner ones
pub outer_times : (index inner place : ℕ) (x : ℤ) → (pos index *ℤ (pos inner *ℤ x)) +ℤ (pos place *ℤ x) ≡ pos (index * inner + place) *ℤ x
outer_times index inner place x = sym (times_sum (index * inner) place x ∙ ap (λ y. y +ℤ (pos place *ℤ x)) (times_product index inner x))
