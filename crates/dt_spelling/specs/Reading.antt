-- Words read from left to right. A reader answers what it read and the words behind it, or the words from the first wrong one on: none where
-- words are missing.
use Rattle.std.specs.Prelude.{◌≡◌, ℕ, zero, suc, ◌-◌, ◌/◌, min, Bool, true, ◌&&◌, nat_le, if◌then◌else◌, ℤ, pos, neg_ℤ, ◌==◌, List, [], ◌∷◌, ◌++◌, map, length, drop, Option, Some, None, Result, Ok, Err, codes, decimal, bytes_eq}
use Rattle.std.specs.Fmt.{signed_decimal}
use Rattle.std.specs.Str.Parse.{digits_value}
use Rattle.dt_kinds.specs.declared.kind.Kind.{Kind}
use Rattle.dt_kinds.specs.declared.kind.KindFault.{KindFault}
use Rattle.dt_kinds.specs.Kind.{name_of}
use Rattle.dt_kinds.specs.Name.{kind_of}
use Rattle.dt_tree.specs.declared.node.Node.{Node}
use Rattle.dt_tree.specs.declared.node.PartOf.{PartOf}
use Rattle.dt_tree.specs.Node.{parts_of, tree_of}
use Rattle.dt_tree.specs.Rule.{is_step}
use Rattle.dt_tree.specs.Tree.{Tree, leaf, vector, index, group}
use Rattle.dt_spelling.specs.declared.head.Head.{Head}
use Rattle.dt_spelling.specs.declared.head.Head.TheVariants.{Leaf, Vector, Index, Group}
use Rattle.dt_spelling.specs.declared.stop.Stop.{Stop}
use Rattle.dt_spelling.specs.declared.stop.Stop.TheVariants.{At, NoMemory}
use Rattle.dt_spelling.specs.Spelling.{Word, Words, words_in}

abbrev pub Reader : Type 0 → Type 0
Reader A = Words → Result (A × Words) Words

-- a reader, and behind it the one that goes with what was read
abbrev pub on_ok : {A B : Type 0} → Result (A × Words) Words → (A → Reader B) → Result (B × Words) Words
on_ok (Ok x) f = f x.0 x.1
on_ok (Err left) f = Err left

unfoldable pub bind : {A B : Type 0} → Reader A → (A → Reader B) → Reader B
bind r f words = on_ok (r words) f

infixl 10 ◌>>=◌
abbrev pub ◌>>=◌ : {A B : Type 0} → Reader A → (A → Reader B) → Reader B
r >>= f = bind r f

-- no word is read
abbrev pub give : {A : Type 0} → A → Reader A
give x words = Ok (x, words)

abbrev pub read_as : {A : Type 0} → Option A → Words → Words → Result (A × Words) Words
read_as None here behind = Err here
read_as (Some x) here behind = Ok (x, behind)

-- what the next word spells
abbrev pub item_at : {A : Type 0} → (Word → Option A) → Reader A
item_at spelled [] = Err []
item_at spelled (word ∷ words) = read_as (spelled word) (word ∷ words) words

-- a value, where a test passes
abbrev pub where_true : {A : Type 0} → Bool → A → Option A
where_true test x = if test then Some x else None

-- the number that a word spells, where it is one from 1 to some most
unfoldable pub number_in : ℕ → Word → Option ℕ
number_in most word =
    let n = digits_value 10 word in
    where_true ((nat_le 1 n && nat_le n most) && bytes_eq word (decimal n)) n

-- the value of digits, negative behind a `-`
abbrev pub signed_value : Word → ℤ
signed_value [] = pos 0
signed_value (b ∷ bytes) = if b == 45 then neg_ℤ (pos (digits_value 10 bytes)) else pos (digits_value 10 (b ∷ bytes))

-- the stride, place or displacement that a word spells
unfoldable pub step_in : Word → Option ℤ
step_in word =
    let x = signed_value word in
    where_true (is_step x && bytes_eq word (signed_decimal x)) x

-- the kind whose name a word is, where that is the name that is printed
abbrev pub printed : Word → Result Kind KindFault → Option Kind
printed word (Err fault) = None
printed word (Ok kind) = where_true (bytes_eq word (name_of kind)) kind

unfoldable pub kind_in : Word → Option Kind
kind_in word = printed word (kind_of word)

-- the first word of each node
abbrev pub head_word : Head → Word
head_word Leaf = codes "leaf"
head_word Vector = codes "vector"
head_word Index = codes "index"
head_word Group = codes "struct"

-- whether a node can stand where so many levels are below it, and where the nodes, places and parts below it may be so many: a vector wants a
-- leaf below it, an index a place and a leaf, and a group a part and a leaf
abbrev pub has_room : ℕ → ℕ → Head → Bool
has_room levels spare Leaf = true
has_room levels spare Vector = nat_le 1 levels && nat_le 1 spare
has_room levels spare Index = nat_le 1 levels && nat_le 2 spare
has_room levels spare Group = nat_le 1 levels && nat_le 2 spare

unfoldable pub head_named : Word → Option Head
head_named word =
    if bytes_eq word (head_word Leaf) then Some Leaf
    else if bytes_eq word (head_word Vector) then Some Vector
    else if bytes_eq word (head_word Index) then Some Index
    else if bytes_eq word (head_word Group) then Some Group
    else None

abbrev pub with_room : ℕ → ℕ → Option Head → Option Head
with_room levels spare None = None
with_room levels spare (Some head) = where_true (has_room levels spare head) head

unfoldable pub head_in : ℕ → ℕ → Word → Option Head
head_in levels spare word = with_room levels spare (head_named word)

-- so many strides, places or displacements
abbrev pub places_at : ℕ → Reader (List ℤ)
places_at zero = give []
places_at (suc n) = do
  first ← item_at step_in
  more ← places_at n
  give (first ∷ more)

-- A tree that was read, and how many nodes, places and parts there may still be beside it. One for it was kept back.
abbrev pub Spent : Type 0 → Type 0
Spent A = A × ℕ

-- the words of a node behind its first one, where `below` reads the nodes below it
unfoldable pub leaf_at : ℕ → Reader (Spent Tree)
leaf_at spare = do
  kind ← item_at kind_in
  give (leaf kind, spare)

unfoldable pub vector_at : (ℕ → Reader (Spent Tree)) → ℕ → Reader (Spent Tree)
vector_at below spare = do
  count ← item_at (number_in 1024)
  block ← item_at (number_in 1024)
  stride ← item_at step_in
  child ← below (spare - 1)
  give (vector count block stride child.0, child.1)

unfoldable pub index_at : (ℕ → Reader (Spent Tree)) → ℕ → Reader (Spent Tree)
index_at below spare = do
  number ← item_at (number_in (min (spare - 1) 1024))
  block ← item_at (number_in 1024)
  places ← places_at number
  child ← below (spare - 1 - number)
  give (index block places child.0, child.1)

unfoldable pub part_at : (ℕ → Reader (Spent Tree)) → ℕ → Reader (Spent (PartOf Tree))
part_at below spare = do
  block ← item_at (number_in 1024)
  disp ← item_at step_in
  child ← below spare
  give (record { block = block; disp = disp; node = child.0 }, child.1)

abbrev pub parts_at : (ℕ → Reader (Spent Tree)) → ℕ → ℕ → Reader (Spent (List (PartOf Tree)))
parts_at below zero spare = give ([], spare)
parts_at below (suc n) spare = do
  first ← part_at below spare
  more ← parts_at below n first.1
  give (first.0 ∷ more.0, more.1)

unfoldable pub group_at : (ℕ → Reader (Spent Tree)) → ℕ → Reader (Spent Tree)
group_at below spare = do
  number ← item_at (number_in (min (spare / 2) 1024))
  parts ← parts_at below number (spare - number - number)
  give (group (parts_of parts.0), parts.1)

abbrev pub behind_head : (ℕ → Reader (Spent Tree)) → ℕ → Head → Reader (Spent Tree)
behind_head below spare Leaf = leaf_at spare
behind_head below spare Vector = vector_at below spare
behind_head below spare Index = index_at below spare
behind_head below spare Group = group_at below spare

-- a node and all below it
unfoldable pub one_at : (ℕ → Reader (Spent Tree)) → ℕ → ℕ → Reader (Spent Tree)
one_at below levels spare = do
  head ← item_at (head_in levels spare)
  behind_head below spare head

-- of so many levels at most, with so many nodes, places and parts beside it at most
unfoldable pub node_at : ℕ → ℕ → Reader (Spent Tree)
node_at zero spare = λ words. Err words
node_at (suc levels) spare = one_at (node_at levels) levels spare

-- no words behind a tree
abbrev pub only : Tree → Words → Result Tree Words
only tree [] = Ok tree
only tree (word ∷ words) = Err (word ∷ words)

abbrev pub whole_of : Result (Spent Tree × Words) Words → Result Tree Words
whole_of (Ok found) = only found.0.0 found.1
whole_of (Err left) = Err left

-- a whole tree
unfoldable pub tree_at : Words → Result Tree Words
tree_at words = whole_of (node_at 64 131071 words)

-- the words of a text from some byte on, none from behind its end on
unfoldable pub words_from : List ℕ → ℕ → Words
words_from text at = if nat_le at (length text) then words_in (drop at text) else []

-- a program's part, and parts, as trees
abbrev pub part_seen : PartOf Node → PartOf Tree
part_seen p = record { block = p.block; disp = p.disp; node = tree_of p.node }

abbrev pub parts_seen : List (PartOf Node) → List (PartOf Tree)
parts_seen parts = map part_seen parts

-- what was read before, in front of what is read then
abbrev pub with_front : {A : Type 0} → List A → Result (List A × Words) Words → Result (List A × Words) Words
with_front front read = on_ok read (λ more. give (front ++ more))

abbrev pub with_parts : List (PartOf Tree) → Result (Spent (List (PartOf Tree)) × Words) Words → Result (Spent (List (PartOf Tree)) × Words) Words
with_parts front read = on_ok read (λ more. give (front ++ more.0, more.1))

-- What a function of a text returned, seen by view, is what reading gives. Want of memory tells nothing.
abbrev pub Stops : {Y : Type 0} → List ℕ → Stop → Result Y Words → Type 0
Stops text NoMemory read = Unit {0}
Stops text (At at) read = read ≡ Err (words_from text at)

abbrev pub Gives : {X Y : Type 0} → List ℕ → (X → Y) → Result X Stop → Result Y Words → Type 0
Gives text view (Ok x) read = read ≡ Ok (view x)
Gives text view (Err stop) read = Stops text stop read
