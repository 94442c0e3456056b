use Rattle.std.specs.Prelude.{ℕ, Bool, true, false, List, codes}
use Rattle.dt_kinds.specs.declared.kind.Kind.{Kind}
use Rattle.dt_kinds.specs.declared.kind.Kind.TheVariants.{Byte, Char, SignedChar, UnsignedChar, Short, UnsignedShort, Int, Unsigned, Long, UnsignedLong, LongLong, UnsignedLongLong, Int8, Int16, Int32, Int64, Uint8, Uint16, Uint32, Uint64, Aint, Count, Offset}
use Rattle.dt_kinds.specs.declared.kind.Rep.{Rep}
use Rattle.dt_kinds.specs.declared.kind.Rep.TheVariants.{Native, External32}

-- what the kind table says of a kind: its MPI name, its bytes in memory and in external32, and whether it has a sign
pub record Row : Type 0 where
  pub name : List ℕ
  pub native : ℕ
  pub external : ℕ
  pub signed : Bool

-- the kind table: names and external sizes are those of MPI 4.1, sections 3.2.2 and 14.5.2; native sizes, and that MPI_CHAR has a
-- sign, are this project's profile
abbrev pub row_of : Kind → Row
row_of Byte = record { name = codes "MPI_BYTE"; native = 1; external = 1; signed = false }
row_of Char = record { name = codes "MPI_CHAR"; native = 1; external = 1; signed = true }
row_of SignedChar = record { name = codes "MPI_SIGNED_CHAR"; native = 1; external = 1; signed = true }
row_of UnsignedChar = record { name = codes "MPI_UNSIGNED_CHAR"; native = 1; external = 1; signed = false }
row_of Short = record { name = codes "MPI_SHORT"; native = 2; external = 2; signed = true }
row_of UnsignedShort = record { name = codes "MPI_UNSIGNED_SHORT"; native = 2; external = 2; signed = false }
row_of Int = record { name = codes "MPI_INT"; native = 4; external = 4; signed = true }
row_of Unsigned = record { name = codes "MPI_UNSIGNED"; native = 4; external = 4; signed = false }
row_of Long = record { name = codes "MPI_LONG"; native = 8; external = 4; signed = true }
row_of UnsignedLong = record { name = codes "MPI_UNSIGNED_LONG"; native = 8; external = 4; signed = false }
row_of LongLong = record { name = codes "MPI_LONG_LONG"; native = 8; external = 8; signed = true }
row_of UnsignedLongLong = record { name = codes "MPI_UNSIGNED_LONG_LONG"; native = 8; external = 8; signed = false }
row_of Int8 = record { name = codes "MPI_INT8_T"; native = 1; external = 1; signed = true }
row_of Int16 = record { name = codes "MPI_INT16_T"; native = 2; external = 2; signed = true }
row_of Int32 = record { name = codes "MPI_INT32_T"; native = 4; external = 4; signed = true }
row_of Int64 = record { name = codes "MPI_INT64_T"; native = 8; external = 8; signed = true }
row_of Uint8 = record { name = codes "MPI_UINT8_T"; native = 1; external = 1; signed = false }
row_of Uint16 = record { name = codes "MPI_UINT16_T"; native = 2; external = 2; signed = false }
row_of Uint32 = record { name = codes "MPI_UINT32_T"; native = 4; external = 4; signed = false }
row_of Uint64 = record { name = codes "MPI_UINT64_T"; native = 8; external = 8; signed = false }
row_of Aint = record { name = codes "MPI_AINT"; native = 8; external = 8; signed = true }
row_of Count = record { name = codes "MPI_COUNT"; native = 8; external = 8; signed = true }
row_of Offset = record { name = codes "MPI_OFFSET"; native = 8; external = 8; signed = true }

-- the bytes of an element in memory, which are its alignment too (this project's profile)
abbrev pub native_size : Kind → ℕ
native_size kind = (row_of kind).native

abbrev pub external_size : Kind → ℕ
external_size kind = (row_of kind).external

abbrev pub is_signed : Kind → Bool
is_signed kind = (row_of kind).signed

abbrev pub name_of : Kind → List ℕ
name_of kind = (row_of kind).name

-- the bytes of an element's image in a representation
abbrev pub packed_size : Rep → Kind → ℕ
packed_size Native kind = native_size kind
packed_size External32 kind = external_size kind
