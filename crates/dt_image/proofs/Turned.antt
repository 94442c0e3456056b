-- bytes of a number in the other order
use Rattle.std.proofs.Common.{◌≡◌, ℕ, zero, suc, ◌+◌, ◌^◌, ◌<◌, List, [], ◌∷◌, ◌++◌, length, reverse, refl, sym, ap, ◌∙◌, arith}
use Rattle.std.proofs.lemmas.List.{reverse-append, reverse-reverse}
use Rattle.std.specs.Int.{byte_at, bytes_high_first, bytes_low_first}
use Rattle.byteorder.specs.Endian.{big_bytes, big_number, little_bytes, little_number}
use Rattle.byteorder.specs.Numbers.{big_from-lt, little_from-lt}
use Rattle.dt_kinds.proofs.Bytes.{numbers_keep_bytes}
use Rattle.dt_kinds.specs.Bytes.{AreBytes}

-- one byte more is the next one
low_first-more : (i j k m : ℕ) → i + k ≡ j → bytes_low_first i (suc k) m ≡ bytes_low_first i k m ++ byte_at j m ∷ []
low_first-more i j zero m e = ap (λ (n : ℕ). byte_at n m ∷ []) (omega arith)
low_first-more i j (suc k) m e = ap (λ (bs : List ℕ). byte_at i m ∷ bs) (low_first-more (suc i) j k m (omega arith))

turned : (n m : ℕ) → bytes_high_first n m ≡ reverse (bytes_low_first 0 n m)
turned zero m = refl
turned (suc n) m =
    ap (λ (bs : List ℕ). byte_at n m ∷ bs) (turned n m)
    ∙ sym (ap reverse (low_first-more 0 n n m (omega arith)) ∙ reverse-append (bytes_low_first 0 n m) (byte_at n m ∷ []))

pub high_from_low : (n : ℕ) (bytes : List ℕ) → length bytes ≡ n → AreBytes bytes → big_bytes n (little_number n bytes) ≡ reverse bytes
high_from_low n bytes len are = turned n (little_number n bytes) ∙ ap reverse (numbers_keep_bytes n bytes len are).1

pub low_from_high : (n : ℕ) (bytes : List ℕ) → length bytes ≡ n → AreBytes bytes → little_bytes n (big_number n bytes) ≡ reverse bytes
low_from_high n bytes len are =
    sym (reverse-reverse (little_bytes n (big_number n bytes)))
    ∙ ap reverse (sym (turned n (big_number n bytes)) ∙ (numbers_keep_bytes n bytes len are).0)

pub little_fits : (n : ℕ) (bytes : List ℕ) → AreBytes bytes → little_number n bytes < 256 ^ n
little_fits n bytes are = little_from-lt 0 n bytes are

pub big_fits : (n : ℕ) (bytes : List ℕ) → AreBytes bytes → big_number n bytes < 256 ^ n
big_fits n bytes are = big_from-lt 0 n bytes are
