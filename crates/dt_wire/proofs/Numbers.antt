-- numbers and lists behind their lengths are read as they are written
use Rattle.std.proofs.Common.{◌≡◌, ℕ, zero, suc, ◌<◌, ◌^◌, Bool, true, false, nat_lt, ℤ, [], ◌∷◌, ◌++◌, List, flat_map, length, Some, Ok, refl, sym, ap, subst, ◌∙◌, append_assoc, arith}
use Rattle.std.proofs.Math.Nat.{mod-lt, mod-eq_of_lt}
use Rattle.std.proofs.Math.Facts.{sfits_to_z, Fits-of_lt, Fits-of_z}
use Rattle.std.proofs.lemmas.Int.{of_z-to_z, to_z-of_z}
use Rattle.std.specs.Int.{cast_signed, cast_unsigned, bytes_high_first}
use Rattle.std.specs.List.{AllByRecursion}
use mir.Syntax.{w32, w64}
use Rattle.byteorder.specs.Endian.{big_bytes, big_number}
use Rattle.byteorder.specs.Numbers.{big_from-bytes, big_from-lt}
use Rattle.dt_kinds.specs.Bytes.{AreBytes}
use Rattle.dt_kinds.proofs.Bytes.{numbers_keep_bytes}
use Rattle.dt_wire.specs.Reading.{Bytes, Reader, read_as, item_at, list_at, byte_in, where_true, number_at, int_at, address_at, counted_at}
use Rattle.dt_wire.specs.Spelling.{int, address, number_of}
use Rattle.dt_wire.specs.Wire.{IsInt, IsAddress}
use Rattle.dt_wire.proofs.Readers.{Good, bind_ok, bind_good, item_good}
use Rattle.dt_wire.proofs.Spells.{Spells, Written, map_good, map_again, AreAll, list_good, list_again}

-- bytes
abbrev pub IsByte : ℕ → Type 0
IsByte b = b < 256

abbrev pub one : ℕ → Bytes
one b = b ∷ []

pub passed : {A : Type 0} (b : Bool) (x y : A) → where_true b x ≡ Some y → (b ≡ true) × (x ≡ y)
passed true x y e = (refl, cc)
passed false x y e = cc

below_is : (a b : ℕ) → nat_lt a b ≡ true → a < b
below_is a b e = grind (arith, e)

is_below : (a b : ℕ) → a < b → nat_lt a b ≡ true
is_below a b e = grind (arith, e)

pub byte_spells : Spells one IsByte (item_at byte_in)
byte_spells = record {
  good = item_good (Written one IsByte) byte_in 0 0 refl (λ b y e. let h = passed (nat_lt b 256) b y e in (ap one h.1, subst IsByte h.1 (below_is b 256 h.0)));
  again = λ y rest fits. ap (λ t. read_as (where_true t y) (y ∷ rest) rest) (is_below y 256 fits);
}

pub flat_one : (bs : Bytes) → flat_map one bs ≡ bs
flat_one [] = refl
flat_one (b ∷ bs) = ap (λ (cs : Bytes). b ∷ cs) (flat_one bs)

are_bytes : (bs : Bytes) → AllByRecursion IsByte bs → AreBytes bs
are_bytes [] h i = omega arith
are_bytes (b ∷ bs) h zero = h.0
are_bytes (b ∷ bs) h (suc i) = are_bytes bs h.1 i

bytes_fit : (n x : ℕ) → AllByRecursion IsByte (bytes_high_first n x)
bytes_fit zero x = tt
bytes_fit (suc zero) x = (mod-lt x (omega arith), tt)
bytes_fit (suc (suc n)) x = (mod-lt _ (omega arith), bytes_fit (suc n) x)

bytes_of : (n : ℕ) (bs u : Bytes) → AreAll one IsByte n bs u → (u ≡ big_bytes n (big_number n bs)) × (big_number n bs < 256 ^ n)
bytes_of n bs u p = (
  p.bytes ∙ (flat_one bs ∙ sym (numbers_keep_bytes n bs p.count (are_bytes bs p.fit)).0),
  big_from-lt 0 n bs (are_bytes bs p.fit),
)

four_again : (x : ℕ) (rest : Bytes) → list_at (item_at byte_in) 4 (big_bytes 4 x ++ rest) ≡ Ok (big_bytes 4 x, rest)
four_again x rest = list_again one IsByte (item_at byte_in) byte_spells (big_bytes 4 x) rest (bytes_fit 4 x)

eight_again : (x : ℕ) (rest : Bytes) → list_at (item_at byte_in) 8 (big_bytes 8 x ++ rest) ≡ Ok (big_bytes 8 x, rest)
eight_again x rest = list_again one IsByte (item_at byte_in) byte_spells (big_bytes 8 x) rest (bytes_fit 8 x)

four_back : (x : ℕ) → x < 256 ^ 4 → big_number 4 (big_bytes 4 x) ≡ x
four_back x fits = big_from-bytes 4 x [] ∙ mod-eq_of_lt fits

eight_back : (x : ℕ) → x < 256 ^ 8 → big_number 8 (big_bytes 8 x) ≡ x
eight_back x fits = big_from-bytes 8 x [] ∙ mod-eq_of_lt fits

-- how long a list is
abbrev pub IsNumber : ℕ → Type 0
IsNumber n = n < 256 ^ 4

pub number_spells : Spells (big_bytes 4) IsNumber number_at
unfolding number_at
number_spells = record {
  good = map_good (AreAll one IsByte 4) (Written (big_bytes 4) IsNumber) (big_number 4) (list_at (item_at byte_in) 4) (list_good one IsByte (item_at byte_in) byte_spells 4) (bytes_of 4);
  again = λ x rest fits. map_again (big_number 4) (list_at (item_at byte_in) 4) (big_bytes 4 x ++ rest) rest (big_bytes 4 x) (four_again x rest) ∙ ap (λ (n : ℕ). Ok (n, rest)) (four_back x fits);
}

-- numbers with a sign
int_of : (bs u : Bytes) → AreAll one IsByte 4 bs u → Written int IsInt (cast_signed w32 (big_number 4 bs)) u
unfolding int
int_of bs u p =
    let h = bytes_of 4 bs u p in
    (h.0 ∙ ap (big_bytes 4) (sym (of_z-to_z w32 (big_number 4 bs) h.1)), sfits_to_z {w = w32} (Fits-of_lt {w = w32} h.1))

pub int_spells : Spells int IsInt int_at
unfolding int int_at
int_spells = record {
  good = map_good (AreAll one IsByte 4) (Written int IsInt) (λ bs. cast_signed w32 (big_number 4 bs)) (list_at (item_at byte_in) 4) (list_good one IsByte (item_at byte_in) byte_spells 4) int_of;
  again = λ x rest fits.
      map_again (λ bs. cast_signed w32 (big_number 4 bs)) (list_at (item_at byte_in) 4) (int x ++ rest) rest (int x) (four_again (cast_unsigned w32 x) rest)
      ∙ ap (λ (y : ℤ). Ok (y, rest)) (ap (cast_signed w32) (four_back (cast_unsigned w32 x) (Fits-of_z {w = w32} fits).fits) ∙ to_z-of_z w32 x fits);
}

address_of : (bs u : Bytes) → AreAll one IsByte 8 bs u → Written address IsAddress (cast_signed w64 (big_number 8 bs)) u
unfolding address
address_of bs u p =
    let h = bytes_of 8 bs u p in
    (h.0 ∙ ap (big_bytes 8) (sym (of_z-to_z w64 (big_number 8 bs) h.1)), sfits_to_z {w = w64} (Fits-of_lt {w = w64} h.1))

pub address_spells : Spells address IsAddress address_at
unfolding address address_at
address_spells = record {
  good = map_good (AreAll one IsByte 8) (Written address IsAddress) (λ bs. cast_signed w64 (big_number 8 bs)) (list_at (item_at byte_in) 8) (list_good one IsByte (item_at byte_in) byte_spells 8) address_of;
  again = λ x rest fits.
      map_again (λ bs. cast_signed w64 (big_number 8 bs)) (list_at (item_at byte_in) 8) (address x ++ rest) rest (address x) (eight_again (cast_unsigned w64 x) rest)
      ∙ ap (λ (y : ℤ). Ok (y, rest)) (ap (cast_signed w64) (eight_back (cast_unsigned w64 x) (Fits-of_z {w = w64} fits).fits) ∙ to_z-of_z w64 x fits);
}

-- lists behind their lengths
pub good_as : {A : Type 0} (P Q : A → Bytes → Type 0) (r : Reader A) → Good P r → ((x : A) (u : Bytes) → P x u → Q x u) → Good Q r
good_as P Q r good same = record {
  ok = λ bytes rest x e. let h = good.ok bytes rest x e in record { front = h.front; whole = h.whole; has = same x h.front h.has; again = h.again };
  err = good.err;
  some = good.some;
}

abbrev pub counted : {A : Type 0} → (A → Bytes) → List A → Bytes
counted write xs = number_of xs ++ flat_map write xs

abbrev pub AreCounted : {A : Type 0} → (A → Type 0) → List A → Type 0
AreCounted Fits xs = IsNumber (length xs) × AllByRecursion Fits xs

module _ {A : Type 0} (write : A → Bytes) (Fits : A → Type 0) (r : Reader A) (spells : Spells write Fits r) where
  counted_good : Good (Written (counted write) (AreCounted Fits)) (counted_at r)
  unfolding counted_at number_of
  counted_good =
      bind_good (Written (big_bytes 4) IsNumber) (Written (counted write) (AreCounted Fits)) number_at (λ n. list_at r n) number_spells.good (λ n u p.
      good_as (AreAll write Fits n) (λ xs v. Written (counted write) (AreCounted Fits) xs (u ++ v)) (list_at r n) (list_good write Fits r spells n) (λ xs v q. (
        ap (λ (t : Bytes). t ++ v) (p.0 ∙ ap (big_bytes 4) (sym q.count)) ∙ ap (λ (t : Bytes). big_bytes 4 (length xs) ++ t) q.bytes,
        (subst IsNumber (sym q.count) p.1, q.fit),
      )))

  counted_again : (xs : List A) (rest : Bytes) → AreCounted Fits xs → counted_at r (counted write xs ++ rest) ≡ Ok (xs, rest)
  unfolding counted_at number_of
  counted_again xs rest fits =
      ap (counted_at r) (append_assoc (big_bytes 4 (length xs)) (flat_map write xs) rest)
      ∙ (bind_ok number_at (λ n. list_at r n) (big_bytes 4 (length xs) ++ (flat_map write xs ++ rest)) (flat_map write xs ++ rest) (length xs) (number_spells.again (length xs) (flat_map write xs ++ rest) fits.0)
      ∙ list_again write Fits r spells xs rest fits.1)

  pub counted_spells : Spells (counted write) (AreCounted Fits) (counted_at r)
  counted_spells = record { good = counted_good; again = counted_again }
