-- What is known of a closure that is kept with a law.
use Rattle.std.specs.Prelude.{◌≡◌, ℕ}
use Rattle.dt_kinds.specs.declared.kind.Kind.{Kind}
use Rattle.dt_ops.specs.Word.{IsWord}

-- a closure may be called on every kind and any two words of it; `may` says on what it may be called
abbrev pub TakesWords : (Kind → ℕ → ℕ → Type 0) → Type 0
TakesWords may = (kind : Kind) (a b : ℕ) → IsWord kind a → IsWord kind b → may kind a b

-- it answers there what the two words are joined to; `gives` says what it may answer
abbrev pub Joins : (Kind → ℕ → ℕ → ℕ) → (Kind → ℕ → ℕ → ℕ → Type 0) → Type 0
Joins join gives = (kind : Kind) (a b r : ℕ) → IsWord kind a → IsWord kind b → gives kind a b r → r ≡ join kind a b
