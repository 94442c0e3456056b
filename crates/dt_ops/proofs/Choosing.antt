-- the first of the least of three, and the last of the greatest, by an order on what they stand for
use Rattle.std.proofs.Common.{◌≡◌, ◌∙◌, ℕ, ℤ, Bool, true, false, cond, refl, arith}
use Rattle.std.proofs.lemmas.Int.{ints}
use Rattle.std.specs.Prelude.{int_le}

-- what three tests of an order tell of one another
pub record IsOrdered (ab bc ac : Bool) : Type 0 where
  pub up : ab ≡ true → bc ≡ true → ac ≡ true
  pub down : ab ≡ false → bc ≡ false → ac ≡ false

module _ (le : ℕ → ℕ → Bool) (a b c : ℕ) where
  least_by : (ab bc ac : Bool) → le a b ≡ ab → le b c ≡ bc → le a c ≡ ac → IsOrdered ab bc ac
      → cond (le (cond (le a b) a b) c) (cond (le a b) a b) c ≡ cond (le a (cond (le b c) b c)) a (cond (le b c) b c)
  least_by true true ac hab hbc hac o = rw (hab, hbc, hab, hac, o.up refl refl) refl
  least_by true false ac hab hbc hac o = rw (hab, hbc, hac) refl
  least_by false true ac hab hbc hac o = rw (hab, hbc, hab) refl
  least_by false false ac hab hbc hac o = rw (hab, hbc, hac, o.down refl refl) refl

  greatest_by : (ab bc ac : Bool) → le a b ≡ ab → le b c ≡ bc → le a c ≡ ac → IsOrdered ab bc ac
      → cond (le (cond (le a b) b a) c) c (cond (le a b) b a) ≡ cond (le a (cond (le b c) c b)) (cond (le b c) c b) a
  greatest_by true true ac hab hbc hac o = rw (hab, hbc, hac, o.up refl refl) refl
  greatest_by true false ac hab hbc hac o = rw (hab, hbc, hab) refl
  greatest_by false true ac hab hbc hac o = rw (hab, hbc, hac) refl
  greatest_by false false ac hab hbc hac o = rw (hab, hbc, hac, hab, o.down refl refl) refl

ordered : (x y z : ℤ) → (xy yz xz : Bool) → int_le x y ≡ xy → int_le y z ≡ yz → int_le x z ≡ xz → IsOrdered xy yz xz
ordered x y z xy yz true exy eyz exz = record { up = λ p q. refl; down = λ p q. absurd (let a = exy ∙ p in let b = eyz ∙ q in omega (arith, ints, a, b, exz)) }
ordered x y z xy yz false exy eyz exz = record { up = λ p q. absurd (let a = exy ∙ p in let b = eyz ∙ q in omega (arith, ints, a, b, exz)); down = λ p q. refl }

-- numbers told apart by what they stand for
module _ (value : ℕ → ℤ) (a b c : ℕ) where
  abbrev le : ℕ → ℕ → Bool
  le x y = int_le (value x) (value y)

  pub least : cond (le (cond (le a b) a b) c) (cond (le a b) a b) c ≡ cond (le a (cond (le b c) b c)) a (cond (le b c) b c)
  least = least_by le a b c (le a b) (le b c) (le a c) refl refl refl (ordered (value a) (value b) (value c) (le a b) (le b c) (le a c) refl refl refl)

  pub greatest : cond (le (cond (le a b) b a) c) c (cond (le a b) b a) ≡ cond (le a (cond (le b c) c b)) (cond (le b c) c b) a
  greatest = greatest_by le a b c (le a b) (le b c) (le a c) refl refl refl (ordered (value a) (value b) (value c) (le a b) (le b c) (le a c) refl refl refl)

pub chosen : (P : ℕ → Type 0) (t : Bool) (a b : ℕ) → P a → P b → P (cond t a b)
chosen P true a b first last = first
chosen P false a b first last = last
