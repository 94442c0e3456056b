-- bytes that are read as a number and written again
use Rattle.std.proofs.Common.{◌≡◌, ℕ, zero, suc, ◌+◌, ◌*◌, ◌/◌, ◌%◌, ◌^◌, ◌<◌, List, [], ◌∷◌, length, refl, sym, ap, ◌∙◌, arith}
use Rattle.std.proofs.Math.Nat.{add-mul-mod_self_left, add-mul-div_left, div-div-eq-div-mul, div-one, mod-eq_of_lt, pow-suc, pow-succ'}
use Rattle.std.proofs.lemmas.Nat.{div-mul-add, mod-mul-add}
use Rattle.std.specs.Int.{byte_at, bytes_high_first, bytes_low_first}
use Rattle.byteorder.specs.Endian.{big_from, little_from}
use Rattle.byteorder.specs.Numbers.{big_from-cons, big_from-lt, little_from-cons}
use Rattle.dt_kinds.specs.Bytes.{AreBytes, NumbersKeepBytes}

byte_at-pow : (k m : ℕ) → byte_at k m ≡ m / 256 ^ k % 256
byte_at-pow zero m = ap (λ (y : ℕ). y % 256) (sym (div-one m))
byte_at-pow (suc k) m = refl

tail_bytes : (x : ℕ) (xs : List ℕ) → AreBytes (x ∷ xs) → AreBytes xs
tail_bytes x xs bytes i = bytes (suc i)

-- the lowest first: from byte i on, m is the number of the bytes
low_kept : (i k m : ℕ) (xs : List ℕ) → length xs ≡ k → AreBytes xs → m / 256 ^ i ≡ little_from 0 k xs → bytes_low_first i k m ≡ xs
low_kept i zero m [] len bytes is = refl
low_kept i zero m (x ∷ xs) len bytes is = absurd (omega arith)
low_kept i (suc k) m [] len bytes is = absurd (omega arith)
low_kept i (suc k) m (x ∷ xs) len bytes is =
    let small : x < 256 = bytes 0 in
    let rest : ℕ = little_from 0 k xs in
    let whole : m / 256 ^ i ≡ x + 256 * rest = is ∙ ap (λ (r : ℕ). x + 256 * r) (little_from-cons 0 k x xs) in
    let first : byte_at i m ≡ x =
    byte_at-pow i m ∙ ap (λ (y : ℕ). y % 256) whole ∙ add-mul-mod_self_left x 256 rest ∙ mod-eq_of_lt small in
    let next : m / 256 ^ suc i ≡ m / 256 ^ i / 256 = ap (λ (p : ℕ). m / p) (pow-suc 256 i) ∙ sym (div-div-eq-div-mul m (256 ^ i) 256) in
    let zero_x : x / 256 ≡ 0 = omega arith in
    let later : m / 256 ^ suc i ≡ rest =
    next ∙ ap (λ (y : ℕ). y / 256) whole ∙ add-mul-div_left x rest {y = 256} (omega arith) ∙ omega (arith, zero_x) in
    rw (first, low_kept (suc i) k m xs (omega arith) (tail_bytes x xs bytes) later) refl

-- the highest first: m has the bytes as its lowest ones
high_kept : (k high m : ℕ) (xs : List ℕ) → length xs ≡ k → AreBytes xs → m ≡ high * 256 ^ k + big_from 0 k xs → bytes_high_first k m ≡ xs
high_kept zero high m [] len bytes is = refl
high_kept zero high m (x ∷ xs) len bytes is = absurd (omega arith)
high_kept (suc k) high m [] len bytes is = absurd (omega arith)
high_kept (suc k) high m (x ∷ xs) len bytes is =
    let small : x < 256 = bytes 0 in
    let rest : ℕ = big_from 0 k xs in
    let below : rest < 256 ^ k = big_from-lt 0 k xs (tail_bytes x xs bytes) in
    let whole : m ≡ (high * 256 + x) * 256 ^ k + rest =
    is ∙ ap (λ (r : ℕ). high * 256 ^ suc k + (x * 256 ^ k + r)) (big_from-cons 0 k x xs)
    ∙ (rw (pow-succ' 256 k) (omega arith)) in
    let first : byte_at k m ≡ x =
    byte_at-pow k m ∙ ap (λ (y : ℕ). y / 256 ^ k % 256) whole ∙ ap (λ (y : ℕ). y % 256) (div-mul-add (high * 256 + x) (256 ^ k) rest below)
    ∙ mod-mul-add high 256 x small in
    rw (first, high_kept k (high * 256 + x) m xs (omega arith) (tail_bytes x xs bytes) whole) refl

pub numbers_keep_bytes : NumbersKeepBytes
numbers_keep_bytes n bytes len are = (
  high_kept n 0 (big_from 0 n bytes) bytes len are (omega arith),
  low_kept 0 n (little_from 0 n bytes) bytes len are (div-one (little_from 0 n bytes)),
)
