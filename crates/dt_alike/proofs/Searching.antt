-- the first number below another that passes a test
use Rattle.std.proofs.Common.{◌≡◌, ℕ, zero, suc, ◌<◌, Bool, true, false, cond, Option, Some, None, [], ◌∷◌, refl, sym, ap, subst, arith, inl, inr}
use Rattle.std.proofs.lemmas.Bool.{cases_lt}
use Rattle.std.proofs.lemmas.List.Folds.{find-append}
use Rattle.std.specs.List.{find}
use Rattle.std.specs.Option.{option_or}
use Rattle.dt_offsets.specs.Offsets.{below}

-- what a search of the numbers below n tells
pub data Lookup (p : ℕ → Bool) (n : ℕ) : Option ℕ → Type 0 where
  none : ((k : ℕ) → k < n → p k ≡ true → ⊥) → Lookup p n None
  some : (f : ℕ) → f < n → p f ≡ true → ((k : ℕ) → k < f → p k ≡ true → ⊥) → Lookup p n (Some f)

found_last : (p : ℕ → Bool) (n : ℕ) (found : Option ℕ) (b : Bool) → p n ≡ b → Lookup p n found → Lookup p (suc n) (option_or found (cond b (Some n) None))
found_last p n found b is (some f lt passes least) = some f (omega arith) passes least
found_last p n found true is (none before) = some n (omega arith) is before
found_last p n found false is (none before) = none (λ k lt passes. elim (cases_lt k n) [
  | inl less ↦ before k less passes
  | inr last ↦ let same : k ≡ n = omega arith in cc (ap p same, is, passes)
])

pub looked : (p : ℕ → Bool) (n : ℕ) → Lookup p n (find p (below n))
looked p zero = none (λ k lt passes. absurd (omega arith))
looked p (suc n) = subst (Lookup p (suc n)) (sym (find-append p (below n) (n ∷ []))) (found_last p n (find p (below n)) (p n) refl (looked p n))
