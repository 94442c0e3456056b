use Rattle.std.specs.Prelude.{◌≡◌, Some, ℕ, List}
use Rattle.std.specs.List.{AllByRecursion, reduce}
use Rattle.dt_kinds.specs.declared.kind.Kind.{Kind}
use Rattle.dt_ops.specs.Bracketing.{IsBracketing}
use Rattle.dt_ops.specs.Word.{IsWord}

-- two words of a kind are joined to a word of it
abbrev pub GivesWords : (Kind → ℕ → ℕ → ℕ) → Type 0
GivesWords join = (kind : Kind) (a b : ℕ) → IsWord kind a → IsWord kind b → IsWord kind (join kind a b)

-- of three words of a kind, any two neighbours may be joined first
abbrev pub IsAssociative : (Kind → ℕ → ℕ → ℕ) → Type 0
IsAssociative join =
    (kind : Kind) (a b c : ℕ) → IsWord kind a → IsWord kind b → IsWord kind c
    → join kind (join kind a b) c ≡ join kind a (join kind b c)

-- of words of a kind, every bracketing comes to what they are joined to from the first on
abbrev pub BracketingsAgree : Type 0
BracketingsAgree =
    (join : Kind → ℕ → ℕ → ℕ) (kind : Kind) (words : List ℕ) (result : ℕ) → GivesWords join → IsAssociative join
    → AllByRecursion (IsWord kind) words → IsBracketing (join kind) words result → reduce (join kind) words ≡ Some result
