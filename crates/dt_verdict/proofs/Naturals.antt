-- what words that spell numbers are parsed as, and the numbers that words spell
use Rattle.std.proofs.Common.{◌≡◌, ℕ, ◌≤◌, ◌<◌, Bool, true, false, ◌&&◌, nat_le, Option, Some, None, Result, Ok, Err, List, decimal, bytes_eq, refl, sym, ap, subst, ◌∙◌, arith}
use Rattle.std.specs.Result.{result_ok}
use Rattle.std.specs.Str.{IsUtf8}
use Rattle.std.specs.Str.Parse.{ParsesUnsigned, digits_value}
use Rattle.std.proofs.lemmas.Fmt.{decimal_is_IsNumeral, parse-decimal, IsAscii-decimal}
use Rattle.std.proofs.lemmas.Slice.Eq.{bytes_eq-Decides}
use Rattle.std.proofs.lemmas.Str.{IsUtf8-from_ascii}
use Rattle.dt_spelling.specs.Reading.{where_true, item_at}
use Rattle.dt_spelling.specs.Spelling.{Word, Words}
use Rattle.dt_spelling.proofs.Numbers.{both_true, is_le, le_is, passed}
use Rattle.dt_spelling.proofs.Steps.{item_ok}
use Rattle.dt_verdict.specs.Number.{IsParsed, natural_in}

value_is : {A E : Type 0} (x y : A) → (let r : Result A E = Ok x in r ≡ Ok y) → y ≡ x
value_is x y e = cc

no_value : {A E : Type 0} (e : E) (y : A) → (let r : Result A E = Err e in r ≡ Ok y) → ⊥
no_value e y same = cc

pub parsed_as : {E : Type 0} (word : List ℕ) (r : Result ℕ E) → ParsesUnsigned 64 10 word r → IsParsed word (result_ok r)
parsed_as {E} word (Ok x) h = λ n fits is. value_is {E = E} x n (parse-decimal 64 n word (Ok x) fits fits is h)
parsed_as {E} word (Err e) h = λ n fits is. no_value e n (parse-decimal 64 n word (Err e) fits fits is h)

pub no_text : (word : List ℕ) → ¬ IsUtf8 word → IsParsed word None
no_text word none = λ n fits is. none (subst IsUtf8 (sym is) (IsUtf8-from_ascii (decimal n) (IsAscii-decimal n (omega arith))))

pub both_are : (a b : Bool) → a ≡ true → b ≡ true → (a && b) ≡ true
both_are a b p q = ap (λ x. x && b) p ∙ q

pub is_none : {A : Type 0} (o : Option A) → ((x : A) → o ≡ Some x → ⊥) → o ≡ None
is_none None none = refl
is_none (Some x) none = absurd (none x refl)

pub natural_spelled : (most : ℕ) (word : Word) (n : ℕ) → n ≤ most → n < 18446744073709551616 → word ≡ decimal n → natural_in most word ≡ Some n
unfolding natural_in
natural_spelled most word n high fits is =
    let value : digits_value 10 word ≡ n = ap (digits_value 10) is ∙ (decimal_is_IsNumeral n fits).1 in
    let test : (nat_le n most && bytes_eq word (decimal n)) ≡ true = both_are (nat_le n most) (bytes_eq word (decimal n)) (le_is n most high) ((bytes_eq-Decides word (decimal n)).1 is) in
    ap (λ m. where_true (nat_le m most && bytes_eq word (decimal m)) m) value ∙ ap (λ b. where_true b n) test

pub natural_means : (most : ℕ) (word : Word) (n : ℕ) → natural_in most word ≡ Some n → (n ≤ most) × (word ≡ decimal n)
unfolding natural_in
natural_means most word n e =
    let m = digits_value 10 word in
    let h = passed (nat_le m most && bytes_eq word (decimal m)) m n e in
    let a = both_true (nat_le m most) (bytes_eq word (decimal m)) h.0 in
    subst (λ k. (k ≤ most) × (word ≡ decimal k)) h.1 (is_le m most a.0, (bytes_eq-Decides word (decimal m)).0 a.1)

pub no_natural : (most : ℕ) (word : Word) → ((n : ℕ) → n ≤ most → word ≡ decimal n → ⊥) → natural_in most word ≡ None
no_natural most word none = is_none (natural_in most word) (λ n e. let h = natural_means most word n e in none n h.0 h.1)

pub natural_tested : (most : ℕ) (word : Word) (n : ℕ) → most < 18446744073709551616 → (nat_le n most && bytes_eq word (decimal n)) ≡ true → natural_in most word ≡ Some n
natural_tested most word n fits test =
    let a = both_true (nat_le n most) (bytes_eq word (decimal n)) test in
    let high = is_le n most a.0 in
    natural_spelled most word n high (omega arith) ((bytes_eq-Decides word (decimal n)).0 a.1)

pub natural_untested : (most : ℕ) (word : Word) (x : ℕ) → most < 18446744073709551616 → ((n : ℕ) → n < 18446744073709551616 → word ≡ decimal n → n ≡ x)
    → (nat_le x most && bytes_eq word (decimal x)) ≡ false → natural_in most word ≡ None
natural_untested most word x fits only test = no_natural most word (λ n high is.
    let same = only n (omega arith) is in
    let high_x : x ≤ most = omega (arith, same, high) in
    let passes = both_are (nat_le x most) (bytes_eq word (decimal x)) (le_is x most high_x) ((bytes_eq-Decides word (decimal x)).1 (is ∙ ap decimal same)) in
    cc (passes, test))

-- a number that was read
pub natural_bound : (most n : ℕ) (words rest : Words) → item_at (natural_in most) words ≡ Ok (n, rest) → n ≤ most
natural_bound most n words rest e = let h = item_ok (natural_in most) words rest n e in (natural_means most h.0 n h.2).0
