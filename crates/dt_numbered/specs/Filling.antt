-- Lists that are put where a caller has room for them.
use Rattle.std.specs.Prelude.{◌≡◌, ℕ, ◌≤◌, ◌<◌, List, ◌++◌, drop, length, Result, MatchResult}
use Rattle.dt_space.specs.declared.fault.SpaceFault.{SpaceFault}
use Rattle.dt_space.specs.declared.fault.SpaceFault.TheVariants.{NoRoom}

-- items at the front of a list, of which the rest stays
abbrev pub filled : {A : Type 0} → List A → List A → List A
filled items out = items ++ drop (length items) out

-- a text stands at the front of bytes that have room for it; else they stay
abbrev pub IsPut : List ℕ → List ℕ → List ℕ → Result (Unit {0}) SpaceFault → Type 0
IsPut text out out' answer =
    MatchResult answer
    (λ done. (length text ≤ length out) × (out' ≡ filled text out))
    (λ fault. (fault ≡ NoRoom) × (length out < length text) × (out' ≡ out))
