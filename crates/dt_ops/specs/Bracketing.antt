-- One value or more that are joined in their order, neighbours first wherever one likes (MPI 4.1, section 6.9.1).
use Rattle.std.specs.Prelude.{List, [], ◌∷◌, ◌++◌}

-- what a bracketing of a list comes to: of one value that value, and else what those of two parts come to that make up the list in order,
-- joined
pub data IsBracketing {A : Type 0} (op : A → A → A) : List A → A → Type 0 where
  one : (x : A) → IsBracketing op (x ∷ []) x
  two : (xs ys : List A) (x y : A) → IsBracketing op xs x → IsBracketing op ys y → IsBracketing op (xs ++ ys) (op x y)
