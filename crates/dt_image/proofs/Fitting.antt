-- an element whose number fits the external size comes back
use Rattle.std.proofs.Common.{◌≡◌, ℕ, ◌+◌, ◌-◌, ◌*◌, ◌<◌, ◌≤◌, Bool, true, false, cond, if◌then◌else◌, nat_lt, nat_le, pos, negsuc, ◌≤ℤ◌, ◌-ℤ◌, List, [], ◌∷◌, ◌++◌, length, take, replicate, reverse, refl, sym, ap, ◌⊎◌, inl, inr, arith}
use Rattle.std.proofs.lemmas.Bool.Decides.{nat_tests}
use Rattle.std.proofs.lemmas.Int.{ints}
use Rattle.std.proofs.lemmas.List.{append-nil, length-reverse, reverse-reverse, take_all}
use Rattle.byteorder.specs.Endian.{little_number, twos_complement}
use Rattle.dt_kinds.specs.declared.kind.Kind.TheVariants.{Long, UnsignedLong}
use Rattle.dt_kinds.specs.declared.kind.Rep.TheVariants.{Native, External32}
use Rattle.dt_kinds.specs.Bytes.{AreBytes}
use Rattle.dt_kinds.specs.Image.{filler, image, restore}
use Rattle.dt_kinds.specs.Kind.{native_size}
use Rattle.dt_image.specs.Laws.{FittingNumbersComeBack}
use Rattle.dt_image.specs.Number.{FitsExternal}

-- turned twice, with nothing to fill
whole : (n : ℕ) (bytes : List ℕ) (filling : ℕ) → length bytes ≡ n
    → reverse (reverse (take n bytes)) ++ replicate (n - length (reverse (take n bytes))) filling ≡ bytes
whole n bytes filling len =
    let all : take n bytes ≡ bytes = take_all n bytes (omega arith) in
    let none : n - length (reverse bytes) ≡ 0 = omega (arith, length-reverse bytes) in
    rw (all, none, reverse-reverse) (append-nil bytes)

-- a number of eight bytes, the lowest first, of which the lower three are told as one: the bytes of one that fits four
small : (low d e f g h number : ℕ) → number ≡ low + 16777216 * d + 4294967296 * e + 1099511627776 * f + 281474976710656 * g + 72057594037927936 * h
    → number < 4294967296 → e ∷ f ∷ g ∷ h ∷ [] ≡ replicate 4 0
small low d e f g h number is below =
    let e0 : e ≡ 0 = omega arith in
    let f0 : f ≡ 0 = omega arith in
    let g0 : g ≡ 0 = omega arith in
    let h0 : h ≡ 0 = omega arith in
    rw (e0, f0, g0, h0) refl

-- and of one that fits them below zero
large : (low d e f g h number : ℕ) → low < 16777216 → d < 256 → e < 256 → f < 256 → g < 256 → h < 256
    → number ≡ low + 16777216 * d + 4294967296 * e + 1099511627776 * f + 281474976710656 * g + 72057594037927936 * h
    → 18446744069414584320 ≤ number → e ∷ f ∷ g ∷ h ∷ [] ≡ replicate 4 255
large low d e f g h number below_low below_d below_e below_f below_g below_h is most =
    let h1 : h ≡ 255 = omega arith in
    let g1 : g ≡ 255 = omega arith in
    let f1 : f ≡ 255 = omega arith in
    let e1 : e ≡ 255 = omega arith in
    rw (e1, f1, g1, h1) refl

-- what a number of eight bytes is, whose number in two's complement fits four
signed_by : (number : ℕ) (test : Bool) → nat_lt number 9223372036854775808 ≡ test
    → negsuc 2147483647 ≤ℤ (if test then pos number else pos number -ℤ pos 18446744073709551616)
    → (if test then pos number else pos number -ℤ pos 18446744073709551616) ≤ℤ pos 2147483647
    → (number < 2147483648) ⊎ (18446744071562067968 ≤ number)
signed_by number true is least most = inl (omega (arith, ints))
signed_by number false is least most = inr (omega (arith, ints))

signed_cases : (number : ℕ) → negsuc 2147483647 ≤ℤ twos_complement 8 number → twos_complement 8 number ≤ℤ pos 2147483647
    → (number < 2147483648) ⊎ (18446744071562067968 ≤ number)
signed_cases number least most = signed_by number (nat_lt number 9223372036854775808) refl least most

abbrev filling : ℕ → ℕ
filling d = cond (nat_le 128 d) 255 0

positive : (d : ℕ) → d < 128 → filling d ≡ 0
positive d below = grind (arith, nat_tests)

negative : (d : ℕ) → 128 ≤ d → filling d ≡ 255
negative d above = grind (arith, nat_tests)

long_bytes : (a b c d e f g h number : ℕ) → AreBytes (a ∷ b ∷ c ∷ d ∷ e ∷ f ∷ g ∷ h ∷ []) → number ≡ little_number 8 (a ∷ b ∷ c ∷ d ∷ e ∷ f ∷ g ∷ h ∷ [])
    → (number < 2147483648) ⊎ (18446744071562067968 ≤ number) → replicate 4 (filling d) ≡ e ∷ f ∷ g ∷ h ∷ []
long_bytes a b c d e f g h number are is (inl below) =
    rw (positive d (omega arith)) (sym (small (a + 256 * b + 65536 * c) d e f g h number (omega arith) (omega arith)))
long_bytes a b c d e f g h number are is (inr above) =
    let low : a + 256 * b + 65536 * c < 16777216 = omega (arith, are 0, are 1, are 2) in
    rw (negative d (omega (arith, are 3, are 4, are 5, are 6, are 7)))
    (sym (large (a + 256 * b + 65536 * c) d e f g h number low (are 3) (are 4) (are 5) (are 6) (are 7) (omega arith) (omega arith)))

long : (bytes : List ℕ) → length bytes ≡ 8 → AreBytes bytes → FitsExternal Long bytes → restore External32 Long (image External32 Long bytes) ≡ bytes
long (a ∷ b ∷ c ∷ d ∷ e ∷ f ∷ g ∷ h ∷ []) len are fits =
    let number : ℕ = little_number 8 (a ∷ b ∷ c ∷ d ∷ e ∷ f ∷ g ∷ h ∷ []) in
    ap (λ (upper : List ℕ). a ∷ b ∷ c ∷ d ∷ upper) (long_bytes a b c d e f g h number are refl (signed_cases number fits.0 fits.1))
long bytes len are fits = absurd (omega arith)

unsigned_long : (bytes : List ℕ) → length bytes ≡ 8 → AreBytes bytes → FitsExternal UnsignedLong bytes
    → restore External32 UnsignedLong (image External32 UnsignedLong bytes) ≡ bytes
unsigned_long (a ∷ b ∷ c ∷ d ∷ e ∷ f ∷ g ∷ h ∷ []) len are fits =
    let number : ℕ = little_number 8 (a ∷ b ∷ c ∷ d ∷ e ∷ f ∷ g ∷ h ∷ []) in
    let below : number < 4294967296 = omega (arith, ints, fits.1) in
    ap (λ (upper : List ℕ). a ∷ b ∷ c ∷ d ∷ upper) (sym (small (a + 256 * b + 65536 * c) d e f g h number (omega arith) below))
unsigned_long bytes len are fits = absurd (omega arith)

pub fitting_numbers_come_back : FittingNumbersComeBack
fitting_numbers_come_back Native kind bytes len are fits = refl
fitting_numbers_come_back External32 Long bytes len are fits = long bytes len are fits
fitting_numbers_come_back External32 UnsignedLong bytes len are fits = unsigned_long bytes len are fits
fitting_numbers_come_back External32 kind bytes len are fits =
    whole (native_size kind) bytes (filler kind (reverse (take (native_size kind) bytes))) len
