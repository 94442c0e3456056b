-- What numbers, names, kinds and bytes are spelled with, and that they are read back.
use Rattle.std.proofs.Common.{◌≡◌, ℕ, zero, suc, ◌+◌, ◌-◌, ◌*◌, ◌/◌, ◌%◌, ◌≤◌, ◌<◌, Bool, true, false, not, cond, ◌&&◌, ◌==◌, nat_le, ℤ, pos, negsuc, neg_ℤ, int_le, Option, Some, None, List, [], ◌∷◌, length, get_or, codes, decimal, bytes_eq, refl, ap, ◌∙◌, arith}
use Rattle.std.proofs.lemmas.Bool.{and_parts, and_from}
use Rattle.std.proofs.lemmas.Fmt.{digits_decimal, digits_value-decimal, decimal_nonempty, length-decimal-le}
use Rattle.std.proofs.lemmas.Int.{ints}
use Rattle.std.proofs.lemmas.Str.Parse.{IsDigitsTest, IsNumeralModel, numerals_by_fold}
use Rattle.std.proofs.Math.Nat.{mod-lt}
use Rattle.std.specs.List.{list_all, fold}
use Rattle.std.specs.Option.{option_map, option_and_then}
use Rattle.std.specs.Result.{result_ok}
use Rattle.hex.specs.Hex.{IsBytes, lower_digits, encode_lower, encode_with, decode_of}
use Rattle.hex.proofs.HexLemmas.{decode_of-encode_lower}
use Rattle.dt_kinds.specs.declared.kind.Kind.{Kind}
use Rattle.dt_kinds.specs.declared.kind.Kind.TheVariants.{Byte}
use Rattle.dt_kinds.specs.Kind as kinds
use Rattle.dt_gen.specs.Script.{name, piece}
use Rattle.dt_script.specs.Hex.{hex_of}
use Rattle.dt_script.specs.Name.{is_letter, is_digit, is_name_byte, is_name}
use Rattle.dt_script.specs.Number.{number_of, natural_of, integer_of, bounded, int_of, address_of}
use Rattle.dt_script.specs.Words.{is_empty}
use Rattle.dt_accepted.proofs.Words.{is_printable, is_word, all_more}

-- digits
abbrev AreDigits : List ℕ → Type 0
AreDigits ds = list_all is_digit ds ≡ true

digits_test : IsDigitsTest AreDigits
digits_test = record {
  empty = refl;
  parts = λ c cs h. let p = and_parts (is_digit c) (list_all is_digit cs) h in (grind arith, p.1);
  more = λ c cs within h. let one : is_digit c ≡ true = grind arith in ap (λ b. b && list_all is_digit cs) one ∙ h;
}

numerals : IsNumeralModel AreDigits number_of
numerals = numerals_by_fold AreDigits digits_test (λ n ds. fold (λ n d. n * 10 + (d - 48)) n ds) (record { empty = λ n. refl; more = λ n c cs within. refl })

are_digits : (n : ℕ) → n < 18446744073709551616 → AreDigits (decimal n)
are_digits n fits = digits_decimal numerals n fits

value_is : (n : ℕ) → n < 18446744073709551616 → number_of (decimal n) ≡ n
value_is n fits = digits_value-decimal numerals n fits

-- one or more bytes
not_empty : (xs : List ℕ) → 0 < length xs → not (is_empty xs) ≡ true
not_empty [] h = absurd (omega arith)
not_empty (x ∷ xs) h = refl

digit_printable : (b : ℕ) → is_digit b ≡ true → is_printable b ≡ true
digit_printable b h = grind arith

digit_named : (b : ℕ) → is_digit b ≡ true → is_name_byte b ≡ true
digit_named b h = grind arith

letter_printable : (b : ℕ) → is_letter b ≡ true → is_printable b ≡ true
letter_printable b h = grind arith

letter_named : (b : ℕ) → is_letter b ≡ true → is_name_byte b ≡ true
letter_named b h = grind arith

pub number_word : (n : ℕ) → n < 18446744073709551616 → is_word (decimal n) ≡ true
number_word n fits =
    and_from (not (is_empty (decimal n))) (list_all is_printable (decimal n)) (not_empty (decimal n) (decimal_nonempty n fits))
    (all_more is_digit is_printable digit_printable (decimal n) (are_digits n fits))

-- a number is read back
digits_read : (ds : List ℕ) → AreDigits ds → 0 < length ds → integer_of ds ≡ Some (pos (number_of ds))
digits_read [] h some = absurd (omega arith)
digits_read (b ∷ bytes) h some =
    let parts = and_parts (is_digit b) (list_all is_digit bytes) h in
    let digit = parts.0 in
    let sign : (b == 45) ≡ false = grind arith in
    ap (λ v. cond v (option_map (λ n. neg_ℤ (pos n)) (natural_of bytes)) (option_map pos (natural_of (b ∷ bytes)))) sign
    ∙ ap (λ v. option_map pos (cond v (Some (number_of (b ∷ bytes))) None)) h

number_read : (n : ℕ) → n < 18446744073709551616 → integer_of (decimal n) ≡ Some (pos n)
number_read n fits =
    digits_read (decimal n) (are_digits n fits) (decimal_nonempty n fits) ∙ ap (λ m. let o : Option ℤ = Some (pos m) in o) (value_is n fits)

within : (low high n : ℕ) → n ≤ high → bounded (negsuc low) (pos high) (pos n) ≡ Some (pos n)
within low high n le =
    let a : int_le (negsuc low) (pos n) ≡ true = grind (arith, ints) in
    let b : int_le (pos n) (pos high) ≡ true = grind (arith, ints) in
    ap (λ v. cond v (let o : Option ℤ = Some (pos n) in o) None) (and_from (int_le (negsuc low) (pos n)) (int_le (pos n) (pos high)) a b)

pub int_read : (n : ℕ) → n ≤ 2147483647 → int_of (decimal n) ≡ Some (pos n)
unfolding int_of
int_read n le =
    ap (option_and_then (bounded (negsuc 2147483647) (pos 2147483647))) (number_read n (omega arith)) ∙ within 2147483647 2147483647 n le

pub address_read : (n : ℕ) → n ≤ 9223372036854775807 → address_of (decimal n) ≡ Some (pos n)
unfolding address_of
address_read n le =
    ap (option_and_then (bounded (negsuc 9223372036854775807) (pos 9223372036854775807))) (number_read n (omega arith))
    ∙ within 9223372036854775807 9223372036854775807 n le

-- a name
pub name_is : (letter n : ℕ) → is_letter letter ≡ true → n ≤ 99 → is_name (name (letter ∷ []) n) ≡ true
name_is letter n h few =
    let fits : n < 18446744073709551616 = omega arith in
    let digits = all_more is_digit is_name_byte digit_named (decimal n) (are_digits n fits) in
    let short : length (decimal n) ≤ 2 = length-decimal-le 2 n (omega arith) (omega arith) fits in
    let size : nat_le (length (letter ∷ decimal n)) 32 ≡ true = grind arith in
    and_from (is_letter letter && list_all is_name_byte (letter ∷ decimal n)) (nat_le (length (letter ∷ decimal n)) 32)
    (and_from (is_letter letter) (list_all is_name_byte (letter ∷ decimal n)) h (and_from (is_name_byte letter) (list_all is_name_byte (decimal n)) (letter_named letter h) digits))
    size

pub name_word : (letter n : ℕ) → is_letter letter ≡ true → n ≤ 99 → is_word (name (letter ∷ []) n) ≡ true
name_word letter n h few =
    let fits : n < 18446744073709551616 = omega arith in
    let digits = all_more is_digit is_printable digit_printable (decimal n) (are_digits n fits) in
    and_from (is_printable letter) (list_all is_printable (decimal n)) (letter_printable letter h) digits

-- a kind
pub kind_word : (kind : Kind) → is_word (kinds.name_of kind) ≡ true
kind_word Byte = refl
kind_word _ = refl

pub kind_name : (kind : Kind) → is_name (kinds.name_of kind) ≡ true
kind_name Byte = refl
kind_name _ = refl

-- bytes
of_all : (p : ℕ → Bool) (xs : List ℕ) (i : ℕ) → list_all p xs ≡ true → i < length xs → p (get_or xs i 0) ≡ true
of_all p [] i h lt = absurd (omega arith)
of_all p (x ∷ xs) zero h lt = (and_parts (p x) (list_all p xs) h).0
of_all p (x ∷ xs) (suc i) h lt = of_all p xs i (and_parts (p x) (list_all p xs) h).1 (omega arith)

digit_of_hex : (i : ℕ) → i < 16 → is_printable (get_or lower_digits i 0) ≡ true
digit_of_hex i lt = of_all is_printable lower_digits i refl lt

no_dash : (i : ℕ) → i < 16 → not (get_or lower_digits i 0 == 45) ≡ true
no_dash i lt = of_all (λ b. not (b == 45)) lower_digits i refl lt

hex_printable : (bytes : List ℕ) → IsBytes bytes → list_all is_printable (encode_lower bytes) ≡ true
unfolding encode_with
hex_printable [] h = refl
hex_printable (b ∷ bytes) h =
    let byte : b < 256 = h 0 in
    let high : b / 16 < 16 = omega arith in
    let low : b % 16 < 16 = omega arith in
    and_from (is_printable (get_or lower_digits (b / 16) 0)) (is_printable (get_or lower_digits (b % 16) 0) && list_all is_printable (encode_lower bytes))
    (digit_of_hex (b / 16) high)
    (and_from (is_printable (get_or lower_digits (b % 16) 0)) (list_all is_printable (encode_lower bytes)) (digit_of_hex (b % 16) low)
    (hex_printable bytes (λ i. h (suc i))))

hex_full : (bytes : List ℕ) → 0 < length bytes → not (is_empty (encode_lower bytes)) ≡ true
unfolding encode_with
hex_full [] lt = absurd (omega arith)
hex_full (b ∷ bytes) lt = refl

pub hex_word : (bytes : List ℕ) → IsBytes bytes → 0 < length bytes → is_word (encode_lower bytes) ≡ true
hex_word bytes h some =
    and_from (not (is_empty (encode_lower bytes))) (list_all is_printable (encode_lower bytes)) (hex_full bytes some) (hex_printable bytes h)

no_dash_word : (x : ℕ) (xs : List ℕ) → not (x == 45) ≡ true → bytes_eq (x ∷ xs) (codes "-") ≡ false
no_dash_word x xs h = let e : (x == 45) ≡ false = grind arith in ap (λ v. v && bytes_eq xs []) e

pub hex_read : (bytes : List ℕ) → IsBytes bytes → 0 < length bytes → hex_of (encode_lower bytes) ≡ Some bytes
unfolding hex_of encode_with
hex_read [] h some = absurd (omega arith)
hex_read (b ∷ bytes) h some =
    let byte : b < 256 = h 0 in
    let high : b / 16 < 16 = omega arith in
    let text = encode_lower (b ∷ bytes) in
    let read = result_ok (decode_of text) in
    ap (λ v. cond v (let o : Option (List ℕ) = Some [] in o) (cond (is_empty text) None read)) (no_dash_word (get_or lower_digits (b / 16) 0) (get_or lower_digits (b % 16) 0 ∷ encode_lower bytes) (no_dash (b / 16) high))
    ∙ ap result_ok (decode_of-encode_lower (b ∷ bytes) h)

-- the bytes of a piece
pub piece_bytes : (r at n : ℕ) → IsBytes (piece r at n)
unfolding piece
piece_bytes r at zero i = omega arith
piece_bytes r at (suc n) zero = mod-lt (7 * at + r) (omega arith)
piece_bytes r at (suc n) (suc i) = piece_bytes r (suc at) n i

pub piece_length : (r at n : ℕ) → length (piece r at n) ≡ n
unfolding piece
piece_length r at zero = refl
piece_length r at (suc n) = ap suc (piece_length r (suc at) n)

-- one, and no byte
pub one_read : int_of (codes "1") ≡ Some (pos 1)
unfolding int_of
one_read = refl

pub zero_read : address_of (codes "0") ≡ Some (pos 0)
unfolding address_of
zero_read = refl
