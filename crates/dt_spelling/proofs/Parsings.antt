-- what a word that was parsed can spell
use Rattle.std.proofs.Common.{◌≡◌, ℕ, ◌<◌, ℤ, pos, negsuc, nat_abs, List, None, Result, Ok, Err, decimal, sym, subst, arith}
use mir.Syntax.{w64}
use Rattle.std.specs.Fmt.{signed_decimal}
use Rattle.std.specs.Int.RustNames.{FitsSigned}
use Rattle.std.specs.Result.{result_ok}
use Rattle.std.specs.Str.{IsUtf8}
use Rattle.std.specs.Str.Parse.{ParsesUnsigned, ParsesSigned}
use Rattle.std.proofs.lemmas.Fmt.{parse-decimal, parse-signed_decimal, IsAscii-decimal, IsAscii-signed}
use Rattle.std.proofs.lemmas.Int.{ints, fits_signed_from_abs}
use Rattle.std.proofs.lemmas.Str.{IsUtf8-from_ascii}
use Rattle.dt_spelling.specs.Parsed.{IsParsed, IsParsedSigned}
use lib.Signed.{mag}

value_is : {A E : Type 0} (x y : A) → (let r : Result A E = Ok x in r ≡ Ok y) → y ≡ x
value_is x y e = cc

no_value : {A E : Type 0} (e : E) (y : A) → (let r : Result A E = Err e in r ≡ Ok y) → ⊥
no_value e y same = cc

small_mag : (z : ℤ) → nat_abs z < 9223372036854775808 → mag z < 9223372036854775808
small_mag (pos n) fits = omega (arith, ints)
small_mag (negsuc n) fits = omega (arith, ints)

fits_signed : (z : ℤ) → nat_abs z < 9223372036854775808 → FitsSigned w64 z
fits_signed z fits = fits_signed_from_abs w64 z fits

pub parsed_as : {E : Type 0} (word : List ℕ) (r : Result ℕ E) → ParsesUnsigned 32 10 word r → IsParsed word (result_ok r)
parsed_as {E} word (Ok x) h = λ n fits is. value_is {E = E} x n (parse-decimal 32 n word (Ok x) fits (omega arith) is h)
parsed_as {E} word (Err e) h = λ n fits is. no_value e n (parse-decimal 32 n word (Err e) fits (omega arith) is h)

pub no_text : (word : List ℕ) → ¬ IsUtf8 word → IsParsed word None
no_text word none = λ n fits is. none (subst IsUtf8 (sym is) (IsUtf8-from_ascii (decimal n) (IsAscii-decimal n (omega arith))))

pub parsed_signed_as : {E : Type 0} (word : List ℕ) (r : Result ℤ E) → ParsesSigned w64 10 word r → IsParsedSigned word (result_ok r)
parsed_signed_as {E} word (Ok x) h = λ z fits is. value_is {E = E} x z (parse-signed_decimal w64 z word (Ok x) (fits_signed z fits) (small_mag z fits) is h)
parsed_signed_as {E} word (Err e) h = λ z fits is. no_value e z (parse-signed_decimal w64 z word (Err e) (fits_signed z fits) (small_mag z fits) is h)

pub no_signed_text : (word : List ℕ) → ¬ IsUtf8 word → IsParsedSigned word None
no_signed_text word none = λ z fits is. none (subst IsUtf8 (sym is) (IsUtf8-from_ascii (signed_decimal z) (IsAscii-signed z (small_mag z fits))))
