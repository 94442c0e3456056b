-- Bytes read from left to right. A reader answers what it read and the bytes behind it, or the bytes from the first wrong one on: none where
-- bytes are missing.
use Rattle.std.specs.Prelude.{ℕ, zero, suc, ◌==◌, Bool, if◌then◌else◌, nat_lt, ℤ, pos, negsuc, List, [], ◌∷◌, Option, Some, None, Result, Ok, Err, slice_get}
use Rattle.std.specs.Int.{cast_signed}
use mir.Syntax.{w32, w64}
use Rattle.byteorder.specs.Endian.{big_number}
use Rattle.dt_kinds.specs.declared.kind.Kind.{Kind}
use Rattle.dt_kinds.specs.declared.kind.Kind.TheVariants.{Byte, Char, SignedChar, UnsignedChar, Short, UnsignedShort, Int, Unsigned, Long, UnsignedLong, LongLong, UnsignedLongLong, Int8, Int16, Int32, Int64, Uint8, Uint16, Uint32, Uint64, Aint, Count, Offset}
use Rattle.dt_form.specs.declared.envelope.Combiner.{Combiner}
use Rattle.dt_form.specs.declared.envelope.Combiner.TheVariants as tag
use Rattle.dt_form.specs.declared.form.AddrBlock.{AddrBlock}
use Rattle.dt_form.specs.declared.form.Dist.{Dist}
use Rattle.dt_form.specs.declared.form.Dist.TheVariants.{Block, Cyclic, Whole}
use Rattle.dt_form.specs.declared.form.DistDim.{DistDim}
use Rattle.dt_form.specs.declared.form.FormOf.{FormOf}
use Rattle.dt_form.specs.declared.form.FormOf.TheVariants.{Named, Dup, Contiguous, Vector, Hvector, Indexed, Hindexed, IndexedBlock, HindexedBlock, Struct, Subarray, Darray, Resized}
use Rattle.dt_form.specs.declared.form.IntBlock.{IntBlock}
use Rattle.dt_form.specs.declared.form.Order.{Order}
use Rattle.dt_form.specs.declared.form.Order.TheVariants.{C, Fortran}
use Rattle.dt_form.specs.declared.form.PartOf.{PartOf}
use Rattle.dt_form.specs.declared.form.SubDim.{SubDim}
use Rattle.dt_type.specs.declared.datatype.Seen.{Seen}
use Rattle.dt_type.specs.Form.{result_of}

abbrev pub Bytes : Type 0
Bytes = List ℕ

abbrev pub Reader : Type 0 → Type 0
Reader A = Bytes → Result (A × Bytes) Bytes

-- a reader, and behind it the one that goes with what was read
abbrev pub on_ok : {A B : Type 0} → Result (A × Bytes) Bytes → (A → Reader B) → Result (B × Bytes) Bytes
on_ok (Ok x) f = f x.0 x.1
on_ok (Err left) f = Err left

unfoldable pub bind : {A B : Type 0} → Reader A → (A → Reader B) → Reader B
bind r f bytes = on_ok (r bytes) f

infixl 10 ◌>>=◌
abbrev pub ◌>>=◌ : {A B : Type 0} → Reader A → (A → Reader B) → Reader B
r >>= f = bind r f

-- no byte is read
abbrev pub give : {A : Type 0} → A → Reader A
give x bytes = Ok (x, bytes)

abbrev pub read_as : {A : Type 0} → Option A → Bytes → Bytes → Result (A × Bytes) Bytes
read_as None here behind = Err here
read_as (Some x) here behind = Ok (x, behind)

-- what the next byte stands for
abbrev pub item_at : {A : Type 0} → (ℕ → Option A) → Reader A
item_at spelled [] = Err []
item_at spelled (byte ∷ bytes) = read_as (spelled byte) (byte ∷ bytes) bytes

-- a value, where a test passes
abbrev pub where_true : {A : Type 0} → Bool → A → Option A
where_true test x = if test then Some x else None

-- what was read, seen otherwise; two things; so many
unfoldable pub map_at : {A B : Type 0} → (A → B) → Reader A → Reader B
map_at g r = do
  x ← r
  give (g x)

unfoldable pub pair_at : {A B : Type 0} → Reader A → Reader B → Reader (A × B)
pair_at r s = do
  x ← r
  y ← s
  give (x, y)

abbrev pub list_at : {A : Type 0} → Reader A → ℕ → Reader (List A)
list_at item zero = give []
list_at item (suc n) = do
  first ← item
  more ← list_at item n
  give (first ∷ more)

-- numbers
abbrev pub byte_in : ℕ → Option ℕ
byte_in b = where_true (nat_lt b 256) b

unfoldable pub number_at : Reader ℕ
number_at = map_at (big_number 4) (list_at (item_at byte_in) 4)

unfoldable pub int_at : Reader ℤ
int_at = map_at (λ bytes. cast_signed w32 (big_number 4 bytes)) (list_at (item_at byte_in) 4)

unfoldable pub address_at : Reader ℤ
address_at = map_at (λ bytes. cast_signed w64 (big_number 8 bytes)) (list_at (item_at byte_in) 8)

-- a list behind its length
unfoldable pub counted_at : {A : Type 0} → Reader A → Reader (List A)
counted_at item = do
  n ← number_at
  list_at item n

-- kinds and tags, in the order of their numbers
abbrev pub kinds : List Kind
kinds =
    Byte ∷ Char ∷ SignedChar ∷ UnsignedChar ∷ Short ∷ UnsignedShort ∷ Int ∷ Unsigned ∷ Long ∷ UnsignedLong ∷ LongLong ∷ UnsignedLongLong ∷ Int8
    ∷ Int16 ∷ Int32 ∷ Int64 ∷ Uint8 ∷ Uint16 ∷ Uint32 ∷ Uint64 ∷ Aint ∷ Count ∷ Offset ∷ []

abbrev pub combiners : List Combiner
combiners =
    tag.Named ∷ tag.Dup ∷ tag.Contiguous ∷ tag.Vector ∷ tag.Hvector ∷ tag.Indexed ∷ tag.Hindexed ∷ tag.IndexedBlock ∷ tag.HindexedBlock ∷ tag.Struct
    ∷ tag.Subarray ∷ tag.Darray ∷ tag.Resized ∷ []

abbrev pub orders : List Order
orders = C ∷ Fortran ∷ []

-- no distribution has the number 0
abbrev pub dist_in : ℕ → Option Dist
dist_in zero = None
dist_in (suc b) = slice_get (Block ∷ Cyclic ∷ Whole ∷ []) b

-- whether a form can stand where no level is left below it: a kind, or a struct without parts
abbrev pub with_room : ℕ → Combiner → Option Combiner
with_room zero tag.Named = Some tag.Named
with_room zero tag.Struct = Some tag.Struct
with_room zero c = None
with_room (suc levels) c = Some c

abbrev pub tag_of : ℕ → Option Combiner → Option Combiner
tag_of levels None = None
tag_of levels (Some c) = with_room levels c

unfoldable pub tag_in : ℕ → ℕ → Option Combiner
tag_in levels b = tag_of levels (slice_get combiners b)

-- -1 is no block length
abbrev pub darg_of : ℤ → Option ℤ
darg_of (negsuc zero) = None
darg_of (negsuc (suc n)) = Some (negsuc (suc n))
darg_of (pos n) = Some (pos n)

unfoldable pub darg_at : Reader (Option ℤ)
darg_at = map_at darg_of int_at

-- blocks, parts and dimensions
unfoldable pub int_block_at : Reader IntBlock
int_block_at = map_at (λ x. record { len = x.0; disp = x.1 }) (pair_at int_at int_at)

unfoldable pub addr_block_at : Reader AddrBlock
addr_block_at = map_at (λ x. record { len = x.0; disp = x.1 }) (pair_at int_at address_at)

unfoldable pub part_at : Reader Seen → Reader (PartOf Seen)
part_at old = map_at (λ x. record { len = x.0; disp = x.1.0; old = x.1.1 }) (pair_at int_at (pair_at address_at old))

unfoldable pub sub_dim_at : Reader SubDim
sub_dim_at = map_at (λ x. record { size = x.0; sub = x.1.0; start = x.1.1 }) (pair_at int_at (pair_at int_at int_at))

unfoldable pub dist_dim_at : Reader DistDim
dist_dim_at =
    map_at (λ x. record { gsize = x.0; dist = x.1.0; darg = x.1.1.0; psize = x.1.1.1 })
    (pair_at int_at (pair_at (item_at dist_in) (pair_at darg_at int_at)))

-- the parts of a struct; none where no level is left for them
abbrev pub zero_in : ℕ → Option ℕ
zero_in b = where_true (b == 0) b

abbrev pub parts_at : ℕ → Reader Seen → Reader (List (PartOf Seen))
parts_at zero old = map_at (λ zeros. []) (list_at (item_at zero_in) 4)
parts_at (suc levels) old = counted_at (part_at old)

-- the bytes behind a tag, where so many levels are left below
abbrev pub behind : ℕ → Reader Seen → Combiner → Reader (FormOf Seen)
behind levels old tag.Named = map_at (λ kind. Named kind) (item_at (slice_get kinds))
behind levels old tag.Dup = map_at (λ t. Dup t) old
behind levels old tag.Contiguous = map_at (λ x. Contiguous x.0 x.1) (pair_at int_at old)
behind levels old tag.Vector = map_at (λ x. Vector x.0 x.1.0 x.1.1.0 x.1.1.1) (pair_at int_at (pair_at int_at (pair_at int_at old)))
behind levels old tag.Hvector = map_at (λ x. Hvector x.0 x.1.0 x.1.1.0 x.1.1.1) (pair_at int_at (pair_at int_at (pair_at address_at old)))
behind levels old tag.Indexed = map_at (λ x. Indexed x.0 x.1) (pair_at (counted_at int_block_at) old)
behind levels old tag.Hindexed = map_at (λ x. Hindexed x.0 x.1) (pair_at (counted_at addr_block_at) old)
behind levels old tag.IndexedBlock = map_at (λ x. IndexedBlock x.0 x.1.0 x.1.1) (pair_at int_at (pair_at (counted_at int_at) old))
behind levels old tag.HindexedBlock = map_at (λ x. HindexedBlock x.0 x.1.0 x.1.1) (pair_at int_at (pair_at (counted_at address_at) old))
behind levels old tag.Struct = map_at (λ parts. Struct parts) (parts_at levels old)
behind levels old tag.Subarray = map_at (λ x. Subarray x.1.0 x.0 x.1.1) (pair_at (item_at (slice_get orders)) (pair_at (counted_at sub_dim_at) old))
behind levels old tag.Darray =
    map_at (λ x. Darray x.0 x.1.0 x.1.1.1.0 x.1.1.0 x.1.1.1.1)
    (pair_at int_at (pair_at int_at (pair_at (item_at (slice_get orders)) (pair_at (counted_at dist_dim_at) old))))
behind levels old tag.Resized = map_at (λ x. Resized x.0 x.1.0 x.1.1) (pair_at address_at (pair_at address_at old))

-- a form, where so many levels are left below it
unfoldable pub one_at : ℕ → Reader (FormOf Seen) → Reader (FormOf Seen)
one_at levels below = do
  c ← item_at (tag_in levels)
  behind levels (map_at result_of below) c

-- a form of so many levels at most
unfoldable pub form_at : ℕ → Reader (FormOf Seen)
form_at zero = λ bytes. Err bytes
form_at (suc levels) = one_at levels (form_at levels)

-- the four bytes before a form
abbrev pub is_byte : ℕ → ℕ → Option ℕ
is_byte x b = where_true (b == x) b

unfoldable pub magic_at : Reader ℕ
magic_at = do
  d ← item_at (is_byte 100)
  t ← item_at (is_byte 116)
  w ← item_at (is_byte 119)
  item_at (is_byte 49)

-- a form behind the four bytes
unfoldable pub text_at : Reader (FormOf Seen)
text_at = do
  first ← magic_at
  form_at 64
