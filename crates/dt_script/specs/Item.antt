-- What one word spells, and what words spell one after another.
use Rattle.std.specs.Prelude.{◌≡◌, ◌≢◌, ℕ, ℤ, List, [], ◌∷◌, ◌++◌, Option, Some, None, IsTrue, codes}
use Rattle.dt_form.specs.declared.form.IntBlock.{IntBlock}
use Rattle.dt_form.specs.declared.form.AddrBlock.{AddrBlock}
use Rattle.dt_form.specs.declared.form.Dist.{Dist}
use Rattle.dt_form.specs.declared.form.Dist.TheVariants.{Block, Cyclic, Whole}
use Rattle.dt_form.specs.declared.form.DistDim.{DistDim}
use Rattle.dt_form.specs.declared.form.Order.{Order}
use Rattle.dt_form.specs.declared.form.Order.TheVariants.{C, Fortran}
use Rattle.dt_form.specs.declared.form.SubDim.{SubDim}
use Rattle.dt_kinds.specs.declared.kind.Rep.{Rep}
use Rattle.dt_kinds.specs.declared.kind.Rep.TheVariants.{Native, External32}
use Rattle.dt_script.specs.declared.command.How.{How}
use Rattle.dt_script.specs.declared.command.How.TheVariants.{Halves, Left}
use Rattle.dt_script.specs.declared.command.NamedPart.{NamedPart}
use Rattle.dt_script.specs.declared.command.Op.{Op}
use Rattle.dt_script.specs.declared.command.Op.TheVariants.{Sum, Prod, Min, Max, And, Or, Xor, First, Last}
use Rattle.dt_script.specs.Hex.{hex_of}
use Rattle.dt_script.specs.Name.{is_name}
use Rattle.dt_script.specs.Number.{int_of, address_of}

-- a word is a number of this value, which an `i32` can hold
abbrev pub IsInt : List ℕ → ℤ → Type 0
IsInt word x = int_of word ≡ Some x

-- a word is a number of this value, which an `i64` can hold
abbrev pub IsAddress : List ℕ → ℤ → Type 0
IsAddress word x = address_of word ≡ Some x

-- a word is this name
abbrev pub IsName : List ℕ → List ℕ → Type 0
IsName word name = (word ≡ name) × IsTrue (is_name name)

-- a word spells these bytes
abbrev pub IsHex : List ℕ → List ℕ → Type 0
IsHex word bytes = hex_of word ≡ Some bytes

-- two pieces of a word with a mark between
abbrev pub joined : List ℕ → List ℕ → List ℕ → List ℕ
joined mark front back = front ++ (mark ++ back)

-- `LENGTH@DISPLACEMENT`, the displacement an INT
abbrev pub IsIntBlock : List ℕ → IntBlock → Type 0
IsIntBlock word block = (len disp : List ℕ) × (word ≡ joined (codes "@") len disp) × IsInt len block.len × IsInt disp block.disp

-- `LENGTH@DISPLACEMENT`, the displacement an ADDR
abbrev pub IsAddrBlock : List ℕ → AddrBlock → Type 0
IsAddrBlock word block = (len disp : List ℕ) × (word ≡ joined (codes "@") len disp) × IsInt len block.len × IsAddress disp block.disp

-- `LENGTH@DISPLACEMENT@TYPE`
abbrev pub IsPart : List ℕ → NamedPart → Type 0
IsPart word part =
    (len disp : List ℕ) × (word ≡ joined (codes "@") len (joined (codes "@") disp part.old))
    × IsInt len part.len × IsAddress disp part.disp × IsTrue (is_name part.old)

-- `native` or `external32`
abbrev pub IsRep : List ℕ → Rep → Type 0
IsRep word Native = word ≡ codes "native"
IsRep word External32 = word ≡ codes "external32"

-- `c` or `fortran`
abbrev pub IsOrder : List ℕ → Order → Type 0
IsOrder word C = word ≡ codes "c"
IsOrder word Fortran = word ≡ codes "fortran"

-- `sum`, `prod`, `min`, `max`, `and`, `or`, `xor`, `first` or `last`
abbrev pub IsOp : List ℕ → Op → Type 0
IsOp word Sum = word ≡ codes "sum"
IsOp word Prod = word ≡ codes "prod"
IsOp word Min = word ≡ codes "min"
IsOp word Max = word ≡ codes "max"
IsOp word And = word ≡ codes "and"
IsOp word Or = word ≡ codes "or"
IsOp word Xor = word ≡ codes "xor"
IsOp word First = word ≡ codes "first"
IsOp word Last = word ≡ codes "last"

-- `halves` or `left`
abbrev pub IsHow : List ℕ → How → Type 0
IsHow word Halves = word ≡ codes "halves"
IsHow word Left = word ≡ codes "left"

-- `block`, `cyclic` or `none`
abbrev pub IsDist : List ℕ → Dist → Type 0
IsDist word Block = word ≡ codes "block"
IsDist word Cyclic = word ≡ codes "cyclic"
IsDist word Whole = word ≡ codes "none"

-- `-` for the default, or an INT
abbrev pub IsDarg : List ℕ → Option ℤ → Type 0
IsDarg word None = word ≡ codes "-"
IsDarg word (Some x) = IsInt word x

-- `SIZE:SUBSIZE:START`
abbrev pub IsSubDim : List ℕ → SubDim → Type 0
IsSubDim word dim =
    (size sub start : List ℕ) × (word ≡ joined (codes ":") size (joined (codes ":") sub start))
    × IsInt size dim.size × IsInt sub dim.sub × IsInt start dim.start

-- `GSIZE:DIST:DARG:PSIZE`
abbrev pub IsDistDim : List ℕ → DistDim → Type 0
IsDistDim word dim =
    (gsize dist darg psize : List ℕ)
    × (word ≡ joined (codes ":") gsize (joined (codes ":") dist (joined (codes ":") darg psize)))
    × IsInt gsize dim.gsize × IsDist dist dim.dist × IsDarg darg dim.darg × IsInt psize dim.psize

-- the kinds of words that a line form may ask for, beside words that stand there as they are
pub data Item : Type 0 where
  INT ADDR NAME HEX REP ORDER OP HOW INT_BLOCK ADDR_BLOCK PART SUB_DIM DIST_DIM : Item

-- what a word of a kind spells
abbrev pub Value : Item → Type 0
Value INT = ℤ
Value ADDR = ℤ
Value NAME = List ℕ
Value HEX = List ℕ
Value REP = Rep
Value ORDER = Order
Value OP = Op
Value HOW = How
Value INT_BLOCK = IntBlock
Value ADDR_BLOCK = AddrBlock
Value PART = NamedPart
Value SUB_DIM = SubDim
Value DIST_DIM = DistDim

-- a word of a kind spells a value
abbrev pub IsItem : (i : Item) → List ℕ → Value i → Type 0
IsItem INT = IsInt
IsItem ADDR = IsAddress
IsItem NAME = IsName
IsItem HEX = IsHex
IsItem REP = IsRep
IsItem ORDER = IsOrder
IsItem OP = IsOp
IsItem HOW = IsHow
IsItem INT_BLOCK = IsIntBlock
IsItem ADDR_BLOCK = IsAddrBlock
IsItem PART = IsPart
IsItem SUB_DIM = IsSubDim
IsItem DIST_DIM = IsDistDim

abbrev pub Words : Type 0
Words = List (List ℕ)

-- as many words as items, each word of the item at its place
abbrev pub Are : {A : Type 0} → (List ℕ → A → Type 0) → List (List ℕ) → List A → Type 0
Are Is [] [] = Unit {0}
Are Is [] (x ∷ xs) = ⊥
Are Is (word ∷ words) [] = ⊥
Are Is (word ∷ words) (x ∷ xs) = Is word x × Are Is words xs

-- what some words are
abbrev pub Text : Type 1
Text = Words → Type 0

infix 40 ◌spell◌
abbrev pub ◌spell◌ : Words → Text → Type 0
words spell text = text words

infixr 50 ◌then◌
abbrev pub ◌then◌ : (Text → Text) → Text → Text
first then behind = first behind

-- this very word
abbrev pub the : List ℕ → Text → Text
the keyword text words = (behind : Words) × (words ≡ keyword ∷ behind) × text behind

-- a word that spells this value
abbrev pub item : (i : Item) → Value i → Text → Text
item i x text words = (word : List ℕ) × (behind : Words) × (words ≡ word ∷ behind) × IsItem i word x × text behind

-- words that spell these values, to the end
abbrev pub each : (i : Item) → List (Value i) → Text
each i xs words = Are (IsItem i) words xs

-- the same, of one value at least
abbrev pub one_or_more : (i : Item) → List (Value i) → Text
one_or_more i xs words = (xs ≢ []) × Are (IsItem i) words xs

-- no more words
abbrev pub end : Text
end words = words ≡ []
