use Rattle.std.specs.Prelude.{◌≡◌, ℕ, ◌<◌, List, length, slice_index}
use Rattle.byteorder.specs.Endian.{big_bytes, big_number, little_bytes, little_number}

-- each member is a byte
abbrev pub AreBytes : List ℕ → Type 0
AreBytes bytes = (i : ℕ) → slice_index bytes i < 256

-- bytes, read as one number and written again in the same order, are those bytes
abbrev pub NumbersKeepBytes : Type 0
NumbersKeepBytes = (n : ℕ) (bytes : List ℕ) → length bytes ≡ n → AreBytes bytes
    → (big_bytes n (big_number n bytes) ≡ bytes) × (little_bytes n (little_number n bytes) ≡ bytes)
