use Rattle.std.specs.Prelude.{ℕ, ◌-◌, ◌*◌, ◌^◌, cond, ℤ, pos, negsuc, ◌≤ℤ◌, List}
use Rattle.byteorder.specs.Endian.{little_number, twos_complement}
use Rattle.dt_kinds.specs.declared.kind.Kind.{Kind}
use Rattle.dt_kinds.specs.Kind.{native_size, external_size, is_signed}

-- the number that the bytes of an element are in memory: in two's complement where the kind has a sign, and the lowest byte first
abbrev pub number_of : Kind → List ℕ → ℤ
number_of kind bytes =
    let number = little_number (native_size kind) bytes in
    cond (is_signed kind) (twos_complement (native_size kind) number) (pos number)

-- the least and the greatest number of so many bytes, with a sign or without
abbrev pub least_number : Kind → ℕ → ℤ
least_number kind size = cond (is_signed kind) (negsuc (2 ^ (8 * size - 1) - 1)) (pos 0)

abbrev pub greatest_number : Kind → ℕ → ℤ
greatest_number kind size = cond (is_signed kind) (pos (2 ^ (8 * size - 1) - 1)) (pos (2 ^ (8 * size) - 1))

-- an element whose number has room in external32 (MPI 4.1, section 14.5.2)
abbrev pub FitsExternal : Kind → List ℕ → Type 0
FitsExternal kind bytes =
    (least_number kind (external_size kind) ≤ℤ number_of kind bytes) × (number_of kind bytes ≤ℤ greatest_number kind (external_size kind))
