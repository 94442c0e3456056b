-- The number of 32 bits that a word spells, by what it is parsed as.
use Rattle.std.proofs.Common.{◌≡◌, ℕ, ◌≤◌, true, false, List, Some, None, Result, Ok, Err, decimal, bytes_eq, sym, ap, ◌∙◌, arith}
use Rattle.std.specs.Result.{result_ok}
use Rattle.std.specs.Str.Parse.{ParsesUnsigned}
use Rattle.std.proofs.lemmas.Fmt.{parse-decimal}
use Rattle.std.proofs.lemmas.Slice.Eq.{bytes_eq-Decides}
use Rattle.dt_verdict.proofs.Naturals.{natural_spelled, no_natural}
use Rattle.dt_call.specs.Words.{number_of}

parsed : {E : Type 0} (word : List ℕ) (r : Result ℕ E) (n : ℕ) → ParsesUnsigned 32 10 word r → n ≤ 4294967295 → word ≡ decimal n → result_ok r ≡ Some n
parsed word r n parses high is = ap result_ok (parse-decimal 32 n word r (omega (arith, high)) (omega (arith, high)) is parses)

some_is : {A : Type 0} (x y : A) → Some x ≡ Some y → x ≡ y
some_is x y e = cc

-- it isn't parsed
pub no_number : {E : Type 0} (word : List ℕ) (r : Result ℕ E) → ParsesUnsigned 32 10 word r → result_ok r ≡ None → number_of word ≡ None
no_number word r parses none = no_natural 4294967295 word (λ n high is. cc (none, parsed word r n parses high is))

-- what is parsed has 32 bits
small : {E : Type 0} (word : List ℕ) (r : Result ℕ E) (x : ℕ) → ParsesUnsigned 32 10 word r → result_ok r ≡ Some x → x ≤ 4294967295
small word (Ok y) x parses is = let same : y ≡ x = some_is y x is in omega (arith, same, parses)
small word (Err e) x parses is = cc

-- it is parsed as a number whose digits it is, or isn't
pub told_number : {E : Type 0} (word : List ℕ) (r : Result ℕ E) (x : ℕ) → ParsesUnsigned 32 10 word r → result_ok r ≡ Some x → bytes_eq word (decimal x) ≡ true
    → number_of word ≡ Some x
told_number word r x parses is same =
    let high = small word r x parses is in
    natural_spelled 4294967295 word x high (omega (arith, high)) ((bytes_eq-Decides word (decimal x)).0 same)

pub other_number : {E : Type 0} (word : List ℕ) (r : Result ℕ E) (x : ℕ) → ParsesUnsigned 32 10 word r → result_ok r ≡ Some x → bytes_eq word (decimal x) ≡ false
    → number_of word ≡ None
other_number word r x parses is other = no_natural 4294967295 word (λ n high at.
    let same : n ≡ x = some_is n x (sym (parsed word r n parses high at) ∙ is) in
    cc (other, (bytes_eq-Decides word (decimal x)).1 (at ∙ ap decimal same)))
