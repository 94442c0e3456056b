-- Words read from left to right: what stands at the front of some words, and the words behind it.
use Rattle.std.specs.Prelude.{◌≡◌, ℕ, ◌==◌, if◌then◌else◌, List, [], ◌∷◌, Option, Some, None, Result, Ok, Err, codes}
use Rattle.std.specs.Str.{bytes_eq}
use Rattle.dt_form.specs.declared.form.IntBlock.{IntBlock}
use Rattle.dt_form.specs.declared.form.AddrBlock.{AddrBlock}
use Rattle.dt_form.specs.declared.form.DistDim.{DistDim}
use Rattle.dt_form.specs.declared.form.SubDim.{SubDim}
use Rattle.dt_kinds.specs.declared.kind.Rep.{Rep}
use Rattle.dt_kinds.specs.declared.kind.Rep.TheVariants.{Native, External32}
use Rattle.dt_script.specs.Array.{order_of, dist_of, darg_of}
use Rattle.dt_script.specs.declared.command.NamedPart.{NamedPart}
use Rattle.dt_script.specs.declared.line.LineFault.{LineFault}
use Rattle.dt_script.specs.declared.line.LineFault.TheVariants.{Syntax}
use Rattle.dt_script.specs.Hex.{hex_of}
use Rattle.dt_script.specs.Item.{Item, INT, ADDR, NAME, HEX, REP, ORDER, OP, HOW, INT_BLOCK, ADDR_BLOCK, PART, SUB_DIM, DIST_DIM, Value}
use Rattle.dt_script.specs.Name.{name_of}
use Rattle.dt_script.specs.Number.{int_of, address_of}
use Rattle.dt_script.specs.Reduction.{op_of, how_of}

infixl 10 ◌>>=◌
abbrev pub ◌>>=◌ : {A B : Type 0} → Option A → (A → Option B) → Option B
None >>= f = None
(Some x) >>= f = f x

-- What a function returned, seen by view, is what reading gives, and a syntax fault where that is nothing. Want of memory tells
-- nothing.
abbrev pub Gives : {X Y : Type 0} → (X → Y) → Result X LineFault → Option Y → Type 0
Gives view (Ok x) read = read ≡ Some (view x)
Gives view (Err fault) read = fault ≡ Syntax → read ≡ None

abbrev pub word_at : List (List ℕ) → Option (List ℕ × List (List ℕ))
word_at [] = None
word_at (word ∷ words) = Some (word, words)

abbrev pub end_at : List (List ℕ) → Option (Unit {0})
end_at [] = Some tt
end_at (word ∷ words) = None

unfoldable pub keyword_at : List ℕ → List (List ℕ) → Option (List (List ℕ))
keyword_at keyword words = do
  word ← word_at words
  if bytes_eq word.0 keyword then Some word.1 else None

-- what the next word spells
unfoldable pub item_at : {A : Type 0} → (List ℕ → Option A) → List (List ℕ) → Option (A × List (List ℕ))
item_at read words = do
  word ← word_at words
  item ← read word.0
  Some (item, word.1)

-- what the next word spells, and what the words behind it do
abbrev pub pair_at : {A B : Type 0} → (List ℕ → Option A) → (List (List ℕ) → Option B) → List (List ℕ) → Option (A × B)
pair_at read others words = do
  item ← item_at read words
  more ← others item.1
  Some (item.0, more)

-- what all the words spell
abbrev pub items_at : {A : Type 0} → (List ℕ → Option A) → List (List ℕ) → Option (List A)
items_at read [] = Some []
items_at read (word ∷ words) = do
  item ← read word
  items ← items_at read words
  Some (item ∷ items)

-- what all the words spell, where there is one at least
abbrev pub one_or_more_at : {A : Type 0} → (List ℕ → Option A) → List (List ℕ) → Option (List A)
one_or_more_at read [] = None
one_or_more_at read (word ∷ words) = items_at read (word ∷ words)

-- the bytes of a word before the first mark, and those behind it
abbrev pub cut_of : ℕ → List ℕ → Option (List ℕ × List ℕ)
cut_of mark [] = None
cut_of mark (b ∷ bytes) = if b == mark then Some ([], bytes) else do
  cut ← cut_of mark bytes
  Some (b ∷ cut.0, cut.1)

-- the representation that a word names
abbrev pub rep_of : List ℕ → Option Rep
rep_of word =
    if bytes_eq word (codes "native") then Some Native
    else if bytes_eq word (codes "external32") then Some External32
    else None

-- cut at the first `@`
abbrev pub at_sign_cut : List ℕ → Option (List ℕ × List ℕ)
at_sign_cut word = cut_of 64 word

-- cut at the first `:`
abbrev pub colon_cut : List ℕ → Option (List ℕ × List ℕ)
colon_cut word = cut_of 58 word

unfoldable pub int_block_of : List ℕ → Option IntBlock
int_block_of word = do
  cut ← at_sign_cut word
  len ← int_of cut.0
  disp ← int_of cut.1
  Some (record { len = len; disp = disp })

unfoldable pub address_block_of : List ℕ → Option AddrBlock
address_block_of word = do
  cut ← at_sign_cut word
  len ← int_of cut.0
  disp ← address_of cut.1
  Some (record { len = len; disp = disp })

unfoldable pub part_of : List ℕ → Option NamedPart
part_of word = do
  cut ← at_sign_cut word
  len ← int_of cut.0
  pieces ← at_sign_cut cut.1
  disp ← address_of pieces.0
  old ← name_of pieces.1
  Some (record { len = len; disp = disp; old = old })

unfoldable pub sub_dim_of : List ℕ → Option SubDim
sub_dim_of word = do
  cut ← colon_cut word
  size ← int_of cut.0
  pieces ← colon_cut cut.1
  sub ← int_of pieces.0
  start ← int_of pieces.1
  Some (record { size = size; sub = sub; start = start })

unfoldable pub dist_dim_of : List ℕ → Option DistDim
dist_dim_of word = do
  cut ← colon_cut word
  gsize ← int_of cut.0
  pieces ← colon_cut cut.1
  dist ← dist_of pieces.0
  last ← colon_cut pieces.1
  darg ← darg_of last.0
  psize ← int_of last.1
  Some (record { gsize = gsize; dist = dist; darg = darg; psize = psize })

-- what a word of a kind spells
abbrev pub item_of : (i : Item) → List ℕ → Option (Value i)
item_of INT = int_of
item_of ADDR = address_of
item_of NAME = name_of
item_of HEX = hex_of
item_of REP = rep_of
item_of ORDER = order_of
item_of OP = op_of
item_of HOW = how_of
item_of INT_BLOCK = int_block_of
item_of ADDR_BLOCK = address_block_of
item_of PART = part_of
item_of SUB_DIM = sub_dim_of
item_of DIST_DIM = dist_dim_of
