use Rattle.std.specs.Prelude.{ℕ, Bool, cond, Option, Result, Ok, Err, List, [], ◌∷◌, codes, ◌≡◌, ◌⊎◌}
use Rattle.std.specs.List.{find, list_any}
use Rattle.std.specs.Option.{ok_or}
use Rattle.std.specs.Str.{bytes_eq}
use Rattle.dt_kinds.specs.declared.kind.Kind.{Kind}
use Rattle.dt_kinds.specs.declared.kind.Kind.TheVariants.{Byte, Char, SignedChar, UnsignedChar, Short, UnsignedShort, Int, Unsigned, Long, UnsignedLong, LongLong, UnsignedLongLong, Int8, Int16, Int32, Int64, Uint8, Uint16, Uint32, Uint64, Aint, Count, Offset}
use Rattle.dt_kinds.specs.declared.kind.KindFault.{KindFault}
use Rattle.dt_kinds.specs.declared.kind.KindFault.TheVariants.{Unsupported, Unknown}
use Rattle.dt_kinds.specs.Kind.{name_of}

-- all kinds, in the order of their numbers
abbrev pub kinds : List Kind
kinds =
    Byte
    ∷ Char
    ∷ SignedChar
    ∷ UnsignedChar
    ∷ Short
    ∷ UnsignedShort
    ∷ Int
    ∷ Unsigned
    ∷ Long
    ∷ UnsignedLong
    ∷ LongLong
    ∷ UnsignedLongLong
    ∷ Int8
    ∷ Int16
    ∷ Int32
    ∷ Int64
    ∷ Uint8
    ∷ Uint16
    ∷ Uint32
    ∷ Uint64
    ∷ Aint
    ∷ Count
    ∷ Offset
    ∷ []

-- the names of MPI 4.1, sections 3.2.2 and 6.9.4, that this project leaves out
abbrev pub left_out : List (List ℕ)
left_out =
    codes "MPI_FLOAT"
    ∷ codes "MPI_DOUBLE"
    ∷ codes "MPI_LONG_DOUBLE"
    ∷ codes "MPI_WCHAR"
    ∷ codes "MPI_C_BOOL"
    ∷ codes "MPI_C_COMPLEX"
    ∷ codes "MPI_C_FLOAT_COMPLEX"
    ∷ codes "MPI_C_DOUBLE_COMPLEX"
    ∷ codes "MPI_C_LONG_DOUBLE_COMPLEX"
    ∷ codes "MPI_PACKED"
    ∷ codes "MPI_FLOAT_INT"
    ∷ codes "MPI_DOUBLE_INT"
    ∷ codes "MPI_LONG_INT"
    ∷ codes "MPI_2INT"
    ∷ codes "MPI_SHORT_INT"
    ∷ codes "MPI_LONG_DOUBLE_INT"
    ∷ codes "MPI_INTEGER"
    ∷ codes "MPI_REAL"
    ∷ codes "MPI_DOUBLE_PRECISION"
    ∷ codes "MPI_COMPLEX"
    ∷ codes "MPI_LOGICAL"
    ∷ codes "MPI_CHARACTER"
    ∷ []

-- whether a word is the name of a datatype that is left out
unfoldable pub is_left_out : List ℕ → Bool
is_left_out word = list_any (bytes_eq word) left_out

-- whether a word is another name of MPI_LONG_LONG (MPI 4.1, section 3.2.2)
unfoldable pub is_long_long_int : List ℕ → Bool
is_long_long_int word = bytes_eq word (codes "MPI_LONG_LONG_INT")

-- the kind of the table whose name a word is
unfoldable pub kind_in_table : List ℕ → Option Kind
kind_in_table word = find (λ kind. bytes_eq word (name_of kind)) kinds

-- the kind that a word names, or why it names none
abbrev pub kind_of : List ℕ → Result Kind KindFault
kind_of word = cond (is_left_out word) (Err Unsupported) (cond (is_long_long_int word) (Ok LongLong) (ok_or (kind_in_table word) Unknown))

-- a word names a kind: it is the kind's name, or the other one of MPI_LONG_LONG
abbrev pub Names : List ℕ → Kind → Type 0
Names word kind = (word ≡ name_of kind) ⊎ ((word ≡ codes "MPI_LONG_LONG_INT") × (kind ≡ LongLong))
