-- Where the kinds of two lists of bytes differ first.
use Rattle.std.specs.Prelude.{◌≡◌, ℕ, ◌<◌, List, take, length, slice_get}
use Rattle.dt_kinds.specs.declared.kind.Kind.{Kind}

-- two lists have the same first members, but not the one of a number, which the first list has
pub record DifferAt (xs ys : List Kind) (at : ℕ) : Type 0 where
  pub within : at < length xs
  pub before : take at xs ≡ take at ys
  pub here : ¬ (slice_get xs at ≡ slice_get ys at)

-- the second list begins with the first one
abbrev pub Begins : List Kind → List Kind → Type 0
Begins xs ys = take (length xs) ys ≡ xs
