-- operations bit by bit: that the order is free
use Rattle.std.proofs.Common.{◌≡◌, ℕ, zero, suc, ◌/◌, ◌%◌, ◌<◌, ◌≤◌, refl, sym, ap, ◌∙◌, arith}
use Rattle.std.proofs.lemmas.Nat.{or_shr, or_mod}
use Rattle.std.specs.Int.Bits.{bit_or, or_zero_l}

by_digits : (a b : ℕ) → a / 2 ≡ b / 2 → a % 2 ≡ b % 2 → a ≡ b
by_digits a b high low = omega (arith, high, low)

digits_join : (x y z : ℕ) → x < 2 → y < 2 → z < 2 → bit_or (bit_or x y) z ≡ bit_or x (bit_or y z)
digits_join zero y z hx hy hz = ap (λ (n : ℕ). bit_or n z) (or_zero_l y) ∙ sym (or_zero_l (bit_or y z))
digits_join (suc zero) zero z hx hy hz = ap (bit_or 1) (sym (or_zero_l z))
digits_join (suc zero) (suc zero) zero hx hy hz = refl
digits_join (suc zero) (suc zero) (suc zero) hx hy hz = refl
digits_join (suc zero) (suc zero) (suc (suc z)) hx hy hz = absurd (omega (arith, hz))
digits_join (suc zero) (suc (suc y)) z hx hy hz = absurd (omega (arith, hy))
digits_join (suc (suc x)) y z hx hy hz = absurd (omega (arith, hx))

or_below : (most a b c : ℕ) → a ≤ most → bit_or (bit_or a b) c ≡ bit_or a (bit_or b c)
or_below zero a b c few =
    let none : a ≡ 0 = omega (arith, few) in
    ap (λ (n : ℕ). bit_or (bit_or n b) c) none ∙ ap (λ (n : ℕ). bit_or n c) (or_zero_l b) ∙ sym (or_zero_l (bit_or b c)) ∙ ap (λ (n : ℕ). bit_or n (bit_or b c)) (sym none)
or_below (suc most) a b c few =
    by_digits (bit_or (bit_or a b) c) (bit_or a (bit_or b c))
    (or_shr (bit_or a b) c 1 ∙ ap (λ (x : ℕ). bit_or x (c / 2)) (or_shr a b 1) ∙ or_below most (a / 2) (b / 2) (c / 2) (omega (arith, few))
    ∙ sym (or_shr a (bit_or b c) 1 ∙ ap (bit_or (a / 2)) (or_shr b c 1)))
    (or_mod (bit_or a b) c 1 ∙ ap (λ (x : ℕ). bit_or x (c % 2)) (or_mod a b 1)
    ∙ digits_join (a % 2) (b % 2) (c % 2) (omega arith) (omega arith) (omega arith)
    ∙ sym (or_mod a (bit_or b c) 1 ∙ ap (bit_or (a % 2)) (or_mod b c 1)))

pub or_assoc : (a b c : ℕ) → bit_or (bit_or a b) c ≡ bit_or a (bit_or b c)
or_assoc a b c = or_below a a b c (omega arith)
