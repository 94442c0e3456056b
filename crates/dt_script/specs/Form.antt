-- A line form by description: which words it asks for, one after another, and what they make. How it is read follows from that.
use Rattle.std.specs.Prelude.{ℕ, cond, List, [], ◌∷◌, Option, None}
use Rattle.std.specs.Option.{option_map}
use Rattle.std.specs.Str.{bytes_eq}
use Rattle.dt_script.specs.Item.{Item, Value, Words, Text, ◌then◌, the, item, each, one_or_more, end}
use Rattle.dt_script.specs.Reading.{◌>>=◌, word_at, end_at, keyword_at, items_at, one_or_more_at, pair_at, item_of}

-- a form of its own that takes all the words that are left, as a relation and as a reader
pub record Rest (A : Type 0) : Type 1 where
  pub Is : Words → A → Type 0
  pub read : Words → Option A

-- no more words; this very word; a word of a kind; words of a kind to the end, and the same of one word at least; and a form of its own to the end
infixr 60 ◌&◌
pub data Fields : Type 1 where
  END : Fields
  WORD : List ℕ → Fields → Fields
  ◌&◌ : Item → Fields → Fields
  EACH : Item → Fields
  ONE_OR_MORE : Item → Fields
  REST : (A : Type 0) → Rest A → Fields

-- what the words spell
abbrev pub Values : Fields → Type 0
Values END = Unit {0}
Values (WORD keyword fields) = Values fields
Values (i & fields) = Value i × Values fields
Values (EACH i) = List (Value i)
Values (ONE_OR_MORE i) = List (Value i)
Values (REST A rest) = A

-- a function of what the words spell
abbrev pub Makes : Fields → Type 0 → Type 0
Makes END C = C
Makes (WORD keyword fields) C = Makes fields C
Makes (i & fields) C = Value i → Makes fields C
Makes (EACH i) C = List (Value i) → C
Makes (ONE_OR_MORE i) C = List (Value i) → C
Makes (REST A rest) C = A → C

abbrev pub made_of : {C : Type 0} → (fields : Fields) → Makes fields C → Values fields → C
made_of END make values = make
made_of (WORD keyword fields) make values = made_of fields make values
made_of (i & fields) make values = made_of fields (make values.0) values.1
made_of (EACH i) make values = make values
made_of (ONE_OR_MORE i) make values = make values
made_of (REST A rest) make values = make values

-- some words spell these values
abbrev pub Spells : (fields : Fields) → Values fields → Text
Spells END values = end
Spells (WORD keyword fields) values = the keyword then Spells fields values
Spells (i & fields) values = item i values.0 then Spells fields values.1
Spells (EACH i) values = each i values
Spells (ONE_OR_MORE i) values = one_or_more i values
Spells (REST A rest) values = λ words. rest.Is words values

-- what some words spell, where they do
abbrev pub values_at : (fields : Fields) → Words → Option (Values fields)
values_at END words = end_at words
values_at (WORD keyword fields) words = keyword_at keyword words >>= values_at fields
values_at (i & fields) words = pair_at (item_of i) (values_at fields) words
values_at (EACH i) words = items_at (item_of i) words
values_at (ONE_OR_MORE i) words = one_or_more_at (item_of i) words
values_at (REST A rest) words = rest.read words

-- a form: its first word, the words behind it, and what they make
pub record Form (C : Type 0) : Type 1 where
  pub keyword : List ℕ
  pub fields : Fields
  pub make : Makes fields C

abbrev pub form : {C : Type 0} → List ℕ → (fields : Fields) → Makes fields C → Form C
form keyword fields make = record { keyword = keyword; fields = fields; make = make }

-- what the words behind the first one of a form make
abbrev pub behind : {C : Type 0} → Form C → Words → Option C
behind f words = option_map (made_of f.fields f.make) (values_at f.fields words)

-- what the words behind a first word make by the form that it is the first word of
abbrev pub one_of : {C : Type 0} → List (Form C) → List ℕ → Words → Option C
one_of [] word words = None
one_of (f ∷ forms) word words = cond (bytes_eq word f.keyword) (behind f words) (one_of forms word words)

abbrev pub any_of : {C : Type 0} → List (Form C) → Words → Option C
any_of forms words = word_at words >>= λ first. one_of forms first.0 first.1
