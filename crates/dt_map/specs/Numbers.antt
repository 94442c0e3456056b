use Rattle.std.specs.Prelude.{Option, Some, None, ℕ, ◌-◌, ◌%◌, ℤ, List, [], ◌∷◌}
use Rattle.std.specs.Int.{int_min, int_max}

-- the lesser of two numbers, where either may be missing
abbrev pub lesser : Option ℤ → Option ℤ → Option ℤ
lesser None y = y
lesser (Some x) None = Some x
lesser (Some x) (Some y) = Some (int_min x y)

-- the least of a list, none of the empty one
abbrev pub least : List ℤ → Option ℤ
least [] = None
least (x ∷ xs) = lesser (Some x) (least xs)

-- the greater of two numbers, where either may be missing
abbrev pub greater : Option ℤ → Option ℤ → Option ℤ
greater None y = y
greater (Some x) None = Some x
greater (Some x) (Some y) = Some (int_max x y)

-- the greatest of a list, none of the empty one
abbrev pub greatest : List ℤ → Option ℤ
greatest [] = None
greatest (x ∷ xs) = greater (Some x) (greatest xs)

-- the least number that makes n a multiple of a when it is added (law `padding_is_least`)
abbrev pub padding : ℕ → ℕ → ℕ
padding n a = (a - n % a) % a
