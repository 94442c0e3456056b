-- The numbers that words spell.
use Rattle.std.specs.Prelude.{◌≡◌, ℕ, ◌<◌, ◌&&◌, nat_le, if◌then◌else◌, ℤ, pos, negsuc, neg_ℤ, int_le, ◌==◌, [], ◌∷◌, Option, Some, None, MatchOption, decimal, bytes_eq}
use Rattle.std.specs.Option.{option_and_then}
use Rattle.std.specs.Str.Parse.{digits_value}
use Rattle.dt_spelling.specs.Reading.{where_true}
use Rattle.dt_spelling.specs.Spelling.{Word}

-- the number of 64 bits that a word spells, if it spells one
abbrev pub IsParsed : Word → Option ℕ → Type 0
IsParsed word result =
    MatchOption result ((n : ℕ) → n < 18446744073709551616 → word ≡ decimal n → ⊥) (λ x. (n : ℕ) → n < 18446744073709551616 → word ≡ decimal n → n ≡ x)

-- the number of at most `most` that a word spells
unfoldable pub natural_in : ℕ → Word → Option ℕ
natural_in most word =
    let n = digits_value 10 word in
    where_true (nat_le n most && bytes_eq word (decimal n)) n

-- a number, where 64 bits hold it with its sign
abbrev pub fitting : ℤ → Option ℤ
fitting x = if int_le (negsuc 9223372036854775807) x && int_le x (pos 9223372036854775807) then Some x else None

-- the negative number whose digits a word is
unfoldable pub negative_in : Word → Option ℤ
negative_in digits = option_and_then (λ n. if nat_le 1 n then fitting (neg_ℤ (pos n)) else None) (natural_in 18446744073709551615 digits)

unfoldable pub positive_in : Word → Option ℤ
positive_in word = option_and_then (λ n. fitting (pos n)) (natural_in 18446744073709551615 word)

-- the number of 64 bits that a word spells, with a `-` before one that is negative
unfoldable pub signed_in : Word → Option ℤ
signed_in [] = None
signed_in (b ∷ bytes) = if b == 45 then negative_in bytes else positive_in (b ∷ bytes)
