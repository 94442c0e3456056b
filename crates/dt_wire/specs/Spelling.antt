-- A form as bytes: a tag, and the arguments of the constructor in their order. Numbers have their most significant byte first.
use Rattle.std.specs.Prelude.{ℕ, zero, suc, ℤ, negsuc, Option, Some, None, List, [], ◌∷◌, ◌++◌, length}
use Rattle.std.specs.Int.{cast_unsigned}
use Rattle.std.specs.List.{flat_map}
use mir.Syntax.{w32, w64}
use Rattle.byteorder.specs.Endian.{big_bytes}
use Rattle.dt_kinds.specs.declared.kind.Kind.{Kind}
use Rattle.dt_kinds.specs.declared.kind.Kind.TheVariants.{Byte, Char, SignedChar, UnsignedChar, Short, UnsignedShort, Int, Unsigned, Long, UnsignedLong, LongLong, UnsignedLongLong, Int8, Int16, Int32, Int64, Uint8, Uint16, Uint32, Uint64, Aint, Count, Offset}
use Rattle.dt_form.specs.declared.form.AddrBlock.{AddrBlock}
use Rattle.dt_form.specs.declared.form.Dist.{Dist}
use Rattle.dt_form.specs.declared.form.Dist.TheVariants.{Block, Cyclic, Whole}
use Rattle.dt_form.specs.declared.form.DistDim.{DistDim}
use Rattle.dt_form.specs.declared.form.FormOf.{FormOf}
use Rattle.dt_form.specs.declared.form.FormOf.TheVariants.{Named, Dup, Contiguous, Vector, Hvector, Indexed, Hindexed, IndexedBlock, HindexedBlock, Struct, Subarray, Darray, Resized}
use Rattle.dt_form.specs.declared.form.IntBlock.{IntBlock}
use Rattle.dt_form.specs.declared.form.Order.{Order}
use Rattle.dt_form.specs.declared.form.Order.TheVariants.{C, Fortran}
use Rattle.dt_form.specs.declared.form.PartOf.{PartOf}
use Rattle.dt_form.specs.declared.form.SubDim.{SubDim}
use Rattle.dt_type.specs.declared.datatype.Seen.{Seen}
use Rattle.dt_type.specs.Datatype.{form_of}

-- numbers of 32 and of 64 bits, in two's complement, and how long a list is
unfoldable pub int : ℤ → List ℕ
int x = big_bytes 4 (cast_unsigned w32 x)

unfoldable pub address : ℤ → List ℕ
address x = big_bytes 8 (cast_unsigned w64 x)

unfoldable pub number_of : {A : Type 0} → List A → List ℕ
number_of xs = big_bytes 4 (length xs)

-- the number of a kind, by which it stands in a list of all kinds
abbrev pub kind_byte : Kind → ℕ
kind_byte Byte = 0
kind_byte Char = 1
kind_byte SignedChar = 2
kind_byte UnsignedChar = 3
kind_byte Short = 4
kind_byte UnsignedShort = 5
kind_byte Int = 6
kind_byte Unsigned = 7
kind_byte Long = 8
kind_byte UnsignedLong = 9
kind_byte LongLong = 10
kind_byte UnsignedLongLong = 11
kind_byte Int8 = 12
kind_byte Int16 = 13
kind_byte Int32 = 14
kind_byte Int64 = 15
kind_byte Uint8 = 16
kind_byte Uint16 = 17
kind_byte Uint32 = 18
kind_byte Uint64 = 19
kind_byte Aint = 20
kind_byte Count = 21
kind_byte Offset = 22

abbrev pub order_byte : Order → ℕ
order_byte C = 0
order_byte Fortran = 1

abbrev pub dist_byte : Dist → ℕ
dist_byte Block = 1
dist_byte Cyclic = 2
dist_byte Whole = 3

-- no block length is written as -1
abbrev pub darg : Option ℤ → List ℕ
darg None = int (negsuc 0)
darg (Some length) = int length

-- blocks, parts and dimensions
unfoldable pub int_block : IntBlock → List ℕ
int_block b = int b.len ++ int b.disp

unfoldable pub addr_block : AddrBlock → List ℕ
addr_block b = int b.len ++ address b.disp

abbrev pub part : {T : Type 0} → (T → List ℕ) → PartOf T → List ℕ
part spelled p = int p.len ++ address p.disp ++ spelled p.old

unfoldable pub sub_dim : SubDim → List ℕ
sub_dim d = int d.size ++ int d.sub ++ int d.start

unfoldable pub dist_dim : DistDim → List ℕ
dist_dim d = int d.gsize ++ dist_byte d.dist ∷ darg d.darg ++ int d.psize

-- a form, by the spellings of its old types
abbrev pub layer : {T : Type 0} → (T → List ℕ) → FormOf T → List ℕ
layer spelled (Named kind) = 0 ∷ kind_byte kind ∷ []
layer spelled (Dup old) = 1 ∷ spelled old
layer spelled (Contiguous count old) = 2 ∷ int count ++ spelled old
layer spelled (Vector count block stride old) = 3 ∷ int count ++ int block ++ int stride ++ spelled old
layer spelled (Hvector count block stride old) = 4 ∷ int count ++ int block ++ address stride ++ spelled old
layer spelled (Indexed blocks old) = 5 ∷ number_of blocks ++ flat_map int_block blocks ++ spelled old
layer spelled (Hindexed blocks old) = 6 ∷ number_of blocks ++ flat_map addr_block blocks ++ spelled old
layer spelled (IndexedBlock block disps old) = 7 ∷ int block ++ number_of disps ++ flat_map int disps ++ spelled old
layer spelled (HindexedBlock block disps old) = 8 ∷ int block ++ number_of disps ++ flat_map address disps ++ spelled old
layer spelled (Struct parts) = 9 ∷ number_of parts ++ flat_map (part spelled) parts
layer spelled (Subarray dims order old) = 10 ∷ order_byte order ∷ number_of dims ++ flat_map sub_dim dims ++ spelled old
layer spelled (Darray size rank dims order old) =
    11 ∷ int size ++ int rank ++ order_byte order ∷ number_of dims ++ flat_map dist_dim dims ++ spelled old
layer spelled (Resized lb extent old) = 12 ∷ address lb ++ address extent ++ spelled old

-- the bytes of a form of at most so many levels, each old type by its own form
abbrev pub spelling : ℕ → FormOf Seen → List ℕ
spelling zero form = []
spelling (suc levels) form = layer (λ old. spelling levels (form_of old)) form

-- before the form stand four bytes: dtw1
abbrev pub magic : List ℕ
magic = 100 ∷ 116 ∷ 119 ∷ 49 ∷ []

abbrev pub text_of : FormOf Seen → List ℕ
text_of form = magic ++ spelling 64 form
