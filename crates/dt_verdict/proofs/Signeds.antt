-- the signed numbers that words spell
use Rattle.std.proofs.Common.{◌≡◌, ◌⊎◌, inl, inr, ℕ, zero, suc, ◌≤◌, ◌<◌, ◌==◌, Bool, true, false, cond, ◌&&◌, nat_le, ℤ, pos, negsuc, neg_ℤ, ◌-ℤ◌, ◌≤ℤ◌, int_le, Option, Some, None, [], ◌∷◌, length, decimal, refl, ap, subst, ◌∙◌, arith}
use Rattle.std.specs.Fmt.{signed_decimal}
use Rattle.std.specs.Option.{option_and_then}
use Rattle.std.specs.Str.Parse.{AllDigits}
use Rattle.std.proofs.lemmas.Bool.{eqb-true}
use Rattle.std.proofs.lemmas.Fmt.{decimal_is_IsNumeral}
use Rattle.std.proofs.lemmas.Int.{ints}
use Rattle.std.proofs.lemmas.Str.Parse.{digit_at}
use Rattle.dt_kinds.specs.Displacement.{FitsDisp}
use Rattle.dt_spelling.specs.Spelling.{Word}
use Rattle.dt_spelling.proofs.Numbers.{both_true, is_le, le_is}
use Rattle.dt_verdict.specs.Lines.{is_near}
use Rattle.dt_verdict.specs.Number.{natural_in, fitting, negative_in, positive_in, signed_in}
use Rattle.dt_verdict.proofs.Naturals.{both_are, natural_spelled, natural_means}

-- a number that 64 bits hold with its sign
unfoldable pub IsSigned : ℤ → Bool
IsSigned x = int_le (negsuc 9223372036854775807) x && int_le x (pos 9223372036854775807)

pub chosen : {A : Type 0} (b : Bool) (x y z : A) → cond b x y ≡ z → ((b ≡ true) × (x ≡ z)) ⊎ ((b ≡ false) × (y ≡ z))
chosen true x y z e = inl (refl, e)
chosen false x y z e = inr (refl, e)

pub then_some : {A B : Type 0} (f : A → Option B) (o : Option A) (y : B) → option_and_then f o ≡ Some y → (x : A) × (o ≡ Some x) × (f x ≡ Some y)
then_some f None y e = cc
then_some f (Some x) y e = (x, refl, e)

fitting_is : (x y : ℤ) → fitting x ≡ Some y → (x ≡ y) × (IsSigned y ≡ true)
unfolding IsSigned
fitting_is x y e = elim (chosen (int_le (negsuc 9223372036854775807) x && int_le x (pos 9223372036854775807)) (Some x) None (Some y) e) [
  | inl h ↦ let same : x ≡ y = cc (h.1) in (same, subst (λ z. (int_le (negsuc 9223372036854775807) z && int_le z (pos 9223372036854775807)) ≡ true) same h.0)
  | inr h ↦ cc (h.1)
]

fitting_some : (x : ℤ) → IsSigned x ≡ true → fitting x ≡ Some x
unfolding IsSigned
fitting_some x e = ap (λ b. cond b (Some x) None) e

-- what a word that is read spells
negative_text : (n : ℕ) (x : ℤ) → 1 ≤ n → neg_ℤ (pos n) ≡ x → 45 ∷ decimal n ≡ signed_decimal x
negative_text zero x some is = absurd (omega arith)
negative_text (suc n) x some is = ap signed_decimal is

negative_means : (digits : Word) (x : ℤ) → negative_in digits ≡ Some x → (45 ∷ digits ≡ signed_decimal x) × (IsSigned x ≡ true)
unfolding negative_in
negative_means digits x e =
    let h = then_some (λ n. cond (nat_le 1 n) (fitting (neg_ℤ (pos n))) None) (natural_in 18446744073709551615 digits) x e in
    let n = h.0 in
    let word = natural_means 18446744073709551615 digits n h.1 in
    elim (chosen (nat_le 1 n) (fitting (neg_ℤ (pos n))) None (Some x) h.2) [
      | inl k ↦ let f = fitting_is (neg_ℤ (pos n)) x k.1 in (ap (λ (w : Word). 45 ∷ w) word.1 ∙ negative_text n x (is_le 1 n k.0) f.0, f.1)
      | inr k ↦ cc (k.1)
    ]

positive_means : (word : Word) (x : ℤ) → positive_in word ≡ Some x → (word ≡ signed_decimal x) × (IsSigned x ≡ true)
unfolding positive_in
positive_means word x e =
    let h = then_some (λ n. fitting (pos n)) (natural_in 18446744073709551615 word) x e in
    let f = fitting_is (pos h.0) x h.2 in
    ((natural_means 18446744073709551615 word h.0 h.1).1 ∙ ap signed_decimal f.0, f.1)

pub signed_means : (word : Word) (x : ℤ) → signed_in word ≡ Some x → (word ≡ signed_decimal x) × (IsSigned x ≡ true)
unfolding signed_in
signed_means [] x e = cc
signed_means (b ∷ bytes) x e = elim (chosen (b == 45) (negative_in bytes) (positive_in (b ∷ bytes)) (Some x) e) [
  | inl h ↦ let same : b ≡ 45 = eqb-true b 45 h.0 in let m = negative_means bytes x h.1 in (ap (λ (c : ℕ). c ∷ bytes) same ∙ m.0, m.1)
  | inr h ↦ positive_means (b ∷ bytes) x h.1
]

-- what is spelled is read
digit_is_no_sign : (b : ℕ) → 48 ≤ b → (b == 45) ≡ false
digit_is_no_sign b low = grind arith

no_sign : (ds : Word) → 0 < length ds → AllDigits 10 ds → signed_in ds ≡ positive_in ds
unfolding signed_in
no_sign [] some digits = absurd (omega arith)
no_sign (b ∷ bytes) some digits =
    ap (λ t. cond t (negative_in bytes) (positive_in (b ∷ bytes))) (digit_is_no_sign b (digit_at (b ∷ bytes) 0 digits (omega arith)).0)

pub signed_spelled : (x : ℤ) → IsSigned x ≡ true → signed_in (signed_decimal x) ≡ Some x
unfolding signed_in positive_in negative_in IsSigned
signed_spelled (pos n) e =
    let fits : n < 9223372036854775808 = omega (arith, ints, e) in
    let h = decimal_is_IsNumeral n (omega arith) in
    no_sign (decimal n) h.0.0 h.0.1
    ∙ (ap (option_and_then (λ m. fitting (pos m))) (natural_spelled 18446744073709551615 (decimal n) n (omega arith) (omega arith) refl) ∙ fitting_some (pos n) e)
signed_spelled (negsuc n) e =
    let low : int_le (negsuc 9223372036854775807) (negsuc n) ≡ true = (both_true (int_le (negsuc 9223372036854775807) (negsuc n)) (int_le (negsuc n) (pos 9223372036854775807)) e).0 in
    let fits : n < 9223372036854775808 = omega (arith, ints, low) in
    ap (option_and_then (λ m. cond (nat_le 1 m) (fitting (neg_ℤ (pos m))) None)) (natural_spelled 18446744073709551615 (decimal (suc n)) (suc n) (omega arith) (omega arith) refl)
    ∙ (ap (λ t. cond t (fitting (negsuc n)) None) (le_is 1 (suc n) (omega arith)) ∙ fitting_some (negsuc n) e)

-- such a number isn't far from 0
pub signed_within : (x : ℤ) → IsSigned x ≡ true → ((pos 0 -ℤ pos 9223372036854775808) ≤ℤ x) × (x ≤ℤ pos 9223372036854775807)
unfolding IsSigned
signed_within x e =
    let h = both_true (int_le (negsuc 9223372036854775807) x) (int_le x (pos 9223372036854775807)) e in
    let low : int_le (negsuc 9223372036854775807) x ≡ true = h.0 in
    let high : int_le x (pos 9223372036854775807) ≡ true = h.1 in
    (omega (arith, ints, low), omega (arith, ints, high))

le_test : (a b : ℤ) → a ≤ℤ b → int_le a b ≡ true
le_test a b h = elim (tested (int_le a b)) [ inl e ↦ e | inr e ↦ absurd (omega (arith, ints, h, e)) ]
  where
    tested : (b : Bool) → (b ≡ true) ⊎ (b ≡ false)
    tested true = inl refl
    tested false = inr refl

pub within_signed : (x : ℤ) → (pos 0 -ℤ pos 9223372036854775808) ≤ℤ x → x ≤ℤ pos 9223372036854775807 → IsSigned x ≡ true
unfolding IsSigned
within_signed x low high =
    both_are (int_le (negsuc 9223372036854775807) x) (int_le x (pos 9223372036854775807)) (le_test (negsuc 9223372036854775807) x (omega (arith, ints, low))) (le_test x (pos 9223372036854775807) high)

-- entries in range
pub near_is : (x : ℤ) → is_near x ≡ true → FitsDisp x
near_is x e =
    let h = both_true (int_le (negsuc 1152921504606846975) x) (int_le x (pos 1152921504606846976)) e in
    let low : int_le (negsuc 1152921504606846975) x ≡ true = h.0 in
    let high : int_le x (pos 1152921504606846976) ≡ true = h.1 in
    (omega (arith, ints, low), omega (arith, ints, high))

pub is_near_is : (x : ℤ) → FitsDisp x → is_near x ≡ true
is_near_is x fits =
    let low = fits.0 in
    let high = fits.1 in
    both_are (int_le (negsuc 1152921504606846975) x) (int_le x (pos 1152921504606846976)) (le_test (negsuc 1152921504606846975) x (omega (arith, ints, low))) (le_test x (pos 1152921504606846976) (omega (arith, ints, high)))

pub fits_signed : (x : ℤ) → FitsDisp x → IsSigned x ≡ true
fits_signed x fits =
    let low = fits.0 in
    let high = fits.1 in
    within_signed x (omega (arith, ints, low)) (omega (arith, ints, high))
