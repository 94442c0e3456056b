use Rattle.std.specs.Prelude.{ℕ, ◌+◌, ◌-◌, ◌*◌, ℤ, pos, negsuc, neg_ℤ, int_le, ◌&&◌, ◌==◌, not, if◌then◌else◌, List, [], ◌∷◌, Option, Some, None, fold}
use Rattle.std.specs.List.{list_all}
use Rattle.std.specs.Option.{option_map, option_and_then}
use Rattle.dt_script.specs.Name.{is_digit}
use Rattle.dt_script.specs.Words.{is_empty}

-- the number that decimal digits spell
abbrev pub number_of : List ℕ → ℕ
number_of digits = fold (λ n d. n * 10 + (d - 48)) 0 digits

-- what a word of one or more digits spells
abbrev pub natural_of : List ℕ → Option ℕ
natural_of word = if not (is_empty word) && list_all is_digit word then Some (number_of word) else None

-- what a word spells: `-` before the digits makes the number negative
abbrev pub integer_of : List ℕ → Option ℤ
integer_of [] = None
integer_of (b ∷ bytes) =
    if b == 45 then option_map (λ n. neg_ℤ (pos n)) (natural_of bytes) else option_map pos (natural_of (b ∷ bytes))

-- a number between two bounds
abbrev pub bounded : ℤ → ℤ → ℤ → Option ℤ
bounded low high x = if int_le low x && int_le x high then Some x else None

-- what a word spells, where it lies in a range
abbrev pub integer_within : ℤ → ℤ → List ℕ → Option ℤ
integer_within low high word = option_and_then (bounded low high) (integer_of word)

-- from -2,147,483,648 to 2,147,483,647
unfoldable pub int_of : List ℕ → Option ℤ
int_of word = integer_within (negsuc 2147483647) (pos 2147483647) word

-- from -9,223,372,036,854,775,808 to 9,223,372,036,854,775,807
unfoldable pub address_of : List ℕ → Option ℤ
address_of word = integer_within (negsuc 9223372036854775807) (pos 9223372036854775807) word
