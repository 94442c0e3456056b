-- what numbers and names are spelled with
use Rattle.std.proofs.Common.{◌≡◌, ℕ, suc, ◌≤◌, ◌<◌, Bool, true, false, not, cond, ◌&&◌, ◌==◌, nat_le, ℤ, pos, negsuc, neg_ℤ, nat_abs, Option, Some, None, Result, Ok, Err, [], ◌∷◌, get_or, decimal, bytes_eq, refl, sym, ap, subst, ◌∙◌, inl, inr, arith}
use Rattle.std.specs.Fmt.{signed_decimal}
use Rattle.std.specs.List.{All, list_all}
use Rattle.std.specs.Str.Parse.{AllDigits, digits_value}
use Rattle.std.proofs.lemmas.Bool.Decides.{leb_tells}
use Rattle.std.proofs.lemmas.Fmt.{decimal_is_IsNumeral}
use Rattle.std.proofs.lemmas.Int.{ints}
use Rattle.std.proofs.lemmas.List.Elements.{All-from_get_or, All-cons, All-weaker}
use Rattle.std.proofs.lemmas.List.Sums.{AllPass-from_list_all}
use Rattle.std.proofs.lemmas.Slice.Eq.{bytes_eq-Decides}
use Rattle.std.proofs.lemmas.Str.Parse.{digit_at}
use Rattle.dt_kinds.specs.declared.kind.Kind.{Kind}
use Rattle.dt_kinds.specs.declared.kind.Kind.TheVariants.{Byte}
use Rattle.dt_kinds.specs.declared.kind.KindFault.{KindFault}
use Rattle.dt_kinds.specs.Kind.{name_of}
use Rattle.dt_kinds.specs.Name.{kind_of}
use Rattle.dt_kinds.proofs.Table.{names_are_read}
use Rattle.dt_tree.specs.Rule.{is_step}
use Rattle.dt_tree.proofs.Limits.{step_fits}
use Rattle.dt_spelling.specs.Reading.{number_in, step_in, kind_in, printed, where_true, signed_value}
use Rattle.dt_spelling.specs.Spelling.{Word, space}

pub both_true : (a b : Bool) → (a && b) ≡ true → (a ≡ true) × (b ≡ true)
both_true true true e = (refl, refl)
both_true true false e = cc
both_true false b e = cc

not_true : (b : Bool) → not b ≡ true → b ≡ false
not_true true e = cc
not_true false e = refl

-- no byte of a word is a space
abbrev pub IsSpaceless : Word → Type 0
IsSpaceless word = All (λ b. (b == space) ≡ false) word

not_space : (b : ℕ) → 48 ≤ b → (b == space) ≡ false
not_space b low = grind arith

pub passes_spaceless : (word : Word) → list_all (λ b. not (b == space)) word ≡ true → IsSpaceless word
passes_spaceless word e = All-weaker (λ b. not (b == space) ≡ true) (λ b. (b == space) ≡ false) (λ b. not_true (b == space)) word (AllPass-from_list_all (λ b. not (b == space)) word e)

digits_spaceless : (ds : Word) → AllDigits 10 ds → IsSpaceless ds
digits_spaceless ds digits = All-from_get_or (λ b. (b == space) ≡ false) ds 0 (λ i lt. not_space (get_or ds i 0) (digit_at ds i digits lt).0)

pub decimal_spaceless : (n : ℕ) → n < 18446744073709551616 → IsSpaceless (decimal n)
decimal_spaceless n fits = digits_spaceless (decimal n) (decimal_is_IsNumeral n fits).0.1

pub signed_spaceless : (x : ℤ) → nat_abs x < 18446744073709551616 → IsSpaceless (signed_decimal x)
signed_spaceless (pos n) fits = decimal_spaceless n fits
signed_spaceless (negsuc n) fits = All-cons (λ b. (b == space) ≡ false) 45 (decimal (suc n)) refl (decimal_spaceless (suc n) fits)

name_passes : (kind : Kind) → list_all (λ b. not (b == space)) (name_of kind) ≡ true
name_passes Byte = refl
name_passes _ = refl

pub name_spaceless : (kind : Kind) → IsSpaceless (name_of kind)
name_spaceless kind = passes_spaceless (name_of kind) (name_passes kind)

pub is_le : (a b : ℕ) → nat_le a b ≡ true → a ≤ b
is_le a b e = elim (leb_tells a b) [ inl h ↦ h.1 | inr h ↦ absurd (cc (e, h.0)) ]

pub le_is : (a b : ℕ) → a ≤ b → nat_le a b ≡ true
le_is a b le = elim (leb_tells a b) [ inl h ↦ h.0 | inr h ↦ absurd (omega arith) ]

all_true : (a b c : Bool) → a ≡ true → b ≡ true → c ≡ true → ((a && b) && c) ≡ true
all_true a b c p q r = ap (λ x. (x && b) && c) p ∙ (ap (λ x. x && c) q ∙ r)

is_none : {A : Type 0} (o : Option A) → ((x : A) → o ≡ Some x → ⊥) → o ≡ None
is_none None none = refl
is_none (Some x) none = absurd (none x refl)

digit_is_no_sign : (b : ℕ) → 48 ≤ b → (b == 45) ≡ false
digit_is_no_sign b low = grind arith

value_of_digits : (ds : Word) → AllDigits 10 ds → signed_value ds ≡ pos (digits_value 10 ds)
value_of_digits [] digits = refl
value_of_digits (b ∷ bytes) digits =
    ap (λ t. cond t (neg_ℤ (pos (digits_value 10 bytes))) (pos (digits_value 10 (b ∷ bytes)))) (digit_is_no_sign b (digit_at (b ∷ bytes) 0 digits (omega arith)).0)

value_again : (x : ℤ) → nat_abs x ≤ 2305843009213693952 → signed_value (signed_decimal x) ≡ x
value_again (pos n) near =
    let h = decimal_is_IsNumeral n (omega (arith, ints)) in value_of_digits (decimal n) h.0.1 ∙ ap pos h.1
value_again (negsuc n) near =
    let h = decimal_is_IsNumeral (suc n) (omega (arith, ints)) in ap (λ m. neg_ℤ (pos m)) h.1

-- a number from 1 to some most that a word spells
pub number_spelled : (most : ℕ) (word : Word) (n : ℕ) → 1 ≤ n → n ≤ most → n < 18446744073709551616 → word ≡ decimal n → number_in most word ≡ Some n
unfolding number_in
number_spelled most word n low high fits is =
    let value : digits_value 10 word ≡ n = ap (digits_value 10) is ∙ (decimal_is_IsNumeral n fits).1 in
    let test : ((nat_le 1 n && nat_le n most) && bytes_eq word (decimal n)) ≡ true = all_true (nat_le 1 n) (nat_le n most) (bytes_eq word (decimal n)) (le_is 1 n low) (le_is n most high) ((bytes_eq-Decides word (decimal n)).1 is) in
    ap (λ m. where_true ((nat_le 1 m && nat_le m most) && bytes_eq word (decimal m)) m) value ∙ ap (λ b. where_true b n) test

pub passed : {A : Type 0} (test : Bool) (x y : A) → where_true test x ≡ Some y → (test ≡ true) × (x ≡ y)
passed true x y e = (refl, cc)
passed false x y e = cc

pub number_means : (most : ℕ) (word : Word) (n : ℕ) → number_in most word ≡ Some n → (1 ≤ n) × (n ≤ most) × (word ≡ decimal n)
unfolding number_in
number_means most word n e =
    let h = passed ((nat_le 1 (digits_value 10 word) && nat_le (digits_value 10 word) most) && bytes_eq word (decimal (digits_value 10 word))) (digits_value 10 word) n e in
    let a = both_true (nat_le 1 (digits_value 10 word) && nat_le (digits_value 10 word) most) (bytes_eq word (decimal (digits_value 10 word))) h.0 in
    let b = both_true (nat_le 1 (digits_value 10 word)) (nat_le (digits_value 10 word) most) a.0 in
    subst (λ m. (1 ≤ m) × (m ≤ most) × (word ≡ decimal m)) h.1
    (is_le 1 (digits_value 10 word) b.0, is_le (digits_value 10 word) most b.1, (bytes_eq-Decides word (decimal (digits_value 10 word))).0 a.1)

pub no_number : (most : ℕ) (word : Word) → ((n : ℕ) → 1 ≤ n → n ≤ most → word ≡ decimal n → ⊥) → number_in most word ≡ None
no_number most word none = is_none (number_in most word) (λ n e. let h = number_means most word n e in none n h.0 h.1 h.2)

-- a stride, place or displacement that a word spells
pub step_spelled : (word : Word) (x : ℤ) → is_step x ≡ true → word ≡ signed_decimal x → step_in word ≡ Some x
unfolding step_in
step_spelled word x fits is =
    let value : signed_value word ≡ x = ap signed_value is ∙ value_again x (step_fits x fits) in
    let test : (is_step x && bytes_eq word (signed_decimal x)) ≡ true = ap (λ b. b && bytes_eq word (signed_decimal x)) fits ∙ (bytes_eq-Decides word (signed_decimal x)).1 is in
    ap (λ y. where_true (is_step y && bytes_eq word (signed_decimal y)) y) value ∙ ap (λ b. where_true b x) test

pub step_means : (word : Word) (x : ℤ) → step_in word ≡ Some x → (is_step x ≡ true) × (word ≡ signed_decimal x)
unfolding step_in
step_means word x e =
    let y = signed_value word in
    let h = passed (is_step y && bytes_eq word (signed_decimal y)) y x e in
    let a = both_true (is_step y) (bytes_eq word (signed_decimal y)) h.0 in
    subst (λ z. (is_step z ≡ true) × (word ≡ signed_decimal z)) h.1 (a.0, (bytes_eq-Decides word (signed_decimal y)).0 a.1)

pub no_step : (word : Word) → ((x : ℤ) → is_step x ≡ true → word ≡ signed_decimal x → ⊥) → step_in word ≡ None
no_step word none = is_none (step_in word) (λ x e. let h = step_means word x e in none x h.0 h.1)

-- a kind whose printed name a word is
pub kind_spelled : (kind : Kind) → kind_in (name_of kind) ≡ Some kind
unfolding kind_in
kind_spelled kind =
    ap (printed (name_of kind)) ((names_are_read (name_of kind) kind).1 (inl refl))
    ∙ ap (λ b. where_true b kind) ((bytes_eq-Decides (name_of kind) (name_of kind)).1 refl)

printed_is : (word : Word) (read : Result Kind KindFault) (kind : Kind) → printed word read ≡ Some kind → word ≡ name_of kind
printed_is word (Err fault) kind e = cc
printed_is word (Ok other) kind e =
    let h = passed (bytes_eq word (name_of other)) other kind e in
    (bytes_eq-Decides word (name_of other)).0 h.0 ∙ ap name_of h.1

pub kind_means : (word : Word) (kind : Kind) → kind_in word ≡ Some kind → word ≡ name_of kind
unfolding kind_in
kind_means word kind e = printed_is word (kind_of word) kind e

-- a number that was tried
pub number_tested : (most : ℕ) (word : Word) (n : ℕ) → most < 4294967296 → ((nat_le 1 n && nat_le n most) && bytes_eq word (decimal n)) ≡ true → number_in most word ≡ Some n
number_tested most word n fits test =
    let a = both_true (nat_le 1 n && nat_le n most) (bytes_eq word (decimal n)) test in
    let b = both_true (nat_le 1 n) (nat_le n most) a.0 in
    let high = is_le n most b.1 in
    number_spelled most word n (is_le 1 n b.0) high (omega arith) ((bytes_eq-Decides word (decimal n)).0 a.1)

pub number_untested : (most : ℕ) (word : Word) (x : ℕ) → most < 4294967296 → ((n : ℕ) → n < 4294967296 → word ≡ decimal n → n ≡ x) → ((nat_le 1 x && nat_le x most) && bytes_eq word (decimal x)) ≡ false → number_in most word ≡ None
number_untested most word x fits only test = no_number most word (λ n low high is.
    let same = only n (omega arith) is in
    let low_x : 1 ≤ x = omega (arith, same, low) in
    let high_x : x ≤ most = omega (arith, same, high) in
    let passes = all_true (nat_le 1 x) (nat_le x most) (bytes_eq word (decimal x)) (le_is 1 x low_x) (le_is x most high_x) ((bytes_eq-Decides word (decimal x)).1 (is ∙ ap decimal same)) in
    cc (passes, test))

pub step_tested : (word : Word) (x : ℤ) → (is_step x && bytes_eq word (signed_decimal x)) ≡ true → step_in word ≡ Some x
step_tested word x test =
    let a = both_true (is_step x) (bytes_eq word (signed_decimal x)) test in step_spelled word x a.0 ((bytes_eq-Decides word (signed_decimal x)).0 a.1)

pub step_untested : (word : Word) (x : ℤ) → ((z : ℤ) → is_step z ≡ true → word ≡ signed_decimal z → z ≡ x) → (is_step x && bytes_eq word (signed_decimal x)) ≡ false → step_in word ≡ None
step_untested word x only test = no_step word (λ z fits is.
    let same = only z fits is in
    let passes : (is_step x && bytes_eq word (signed_decimal x)) ≡ true = ap (λ b. b && bytes_eq word (signed_decimal x)) (ap is_step (sym same) ∙ fits) ∙ (bytes_eq-Decides word (signed_decimal x)).1 (is ∙ ap signed_decimal same) in
    cc (passes, test))
