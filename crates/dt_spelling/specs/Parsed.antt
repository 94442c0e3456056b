-- What a word can spell at most.
use Rattle.std.specs.Prelude.{◌≡◌, ℕ, ◌<◌, ℤ, nat_abs, List, Option, MatchOption, decimal}
use Rattle.std.specs.Fmt.{signed_decimal}

-- the number of 32 bits that a word spells, if it spells one
abbrev pub IsParsed : List ℕ → Option ℕ → Type 0
IsParsed word result = MatchOption result ((n : ℕ) → n < 4294967296 → word ≡ decimal n → ⊥) (λ x. (n : ℕ) → n < 4294967296 → word ≡ decimal n → n ≡ x)

-- the same of a number of 64 bits with a sign
abbrev pub IsParsedSigned : List ℕ → Option ℤ → Type 0
IsParsedSigned word result = MatchOption result ((z : ℤ) → nat_abs z < 9223372036854775808 → word ≡ signed_decimal z → ⊥) (λ x. (z : ℤ) → nat_abs z < 9223372036854775808 → word ≡ signed_decimal z → z ≡ x)
