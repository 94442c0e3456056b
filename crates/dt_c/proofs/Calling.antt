-- A call on the space of a library, where there is one and where there is none.
use Rattle.std.specs.Prelude.{◌≡◌, ℤ, pos, Option, Some, None, Result}
use Rattle.std.proofs.Common.{sym, subst}
use Rattle.dt_space.specs.declared.fault.SpaceFault.{SpaceFault}
use Rattle.dt_space.specs.Space.{Space}
use Rattle.dt_c.specs.Answer.{Calls, closed, number_for}

module _ {A : Type 0} (old new : Option Space) (number : ℤ) (Same : Type 0) (Call : Space → Space → Result A SpaceFault → Type 0) where
  pub calls_none : old ≡ None → new ≡ None → number ≡ pos closed → Same → Calls old new number Same Call
  calls_none none left told same = subst (λ o. Calls o new number Same Call) (sym none) (left, told, same)

  pub calls_some : (s t : Space) (r : Result A SpaceFault) → old ≡ Some s → new ≡ Some t → number ≡ number_for r → Call s t r → Calls old new number Same Call
  calls_some s t r was is told call = subst (λ o. Calls o new number Same Call) (sym was) (t, r, is, told, call)
