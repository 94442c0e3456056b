-- What lines spell, word by word.
use Rattle.std.specs.Prelude.{◌≡◌, ℕ, ℤ, List, [], ◌∷◌, Option, Result, Ok, Err, codes, bytes_eq}
use Rattle.dt_map.specs.declared.entry.Entry.{Entry}
use Rattle.dt_tree.specs.Weights.{Weights, weights_of}
use Rattle.dt_normal.specs.declared.low.Low.{Low}
use Rattle.dt_spelling.specs.Reading.{Reader, ◌>>=◌, give, item_at, where_true, kind_in, words_from}
use Rattle.dt_spelling.specs.Spelling.{Word, Words}
use Rattle.dt_verdict.specs.declared.words.WrongWord.{WrongWord}
use Rattle.dt_verdict.specs.Number.{natural_in, signed_in}

-- What a function of a line returned, seen by view, is what reading its words gives.
abbrev pub Spells : {X Y : Type 0} → List ℕ → (X → Y) → Result X WrongWord → Result Y Words → Type 0
Spells line view (Ok x) read = read ≡ Ok (view x)
Spells line view (Err wrong) read = read ≡ Err (words_from line wrong.at)

-- nothing, where a word is this one
abbrev pub is_word : Word → Word → Option Unit
is_word wanted word = where_true (bytes_eq word wanted) tt

-- the lines of six weights, of the number of entries, of an entry, of a base, of a cost and of a value
unfoldable pub weights_at : Reader Weights
weights_at = do
  start ← item_at (is_word (codes "weights"))
  leaf ← item_at (natural_in 1000000)
  vector ← item_at (natural_in 1000000)
  index ← item_at (natural_in 1000000)
  place ← item_at (natural_in 1000000)
  group ← item_at (natural_in 1000000)
  part ← item_at (natural_in 1000000)
  give (weights_of leaf vector index place group part)

unfoldable pub number_at : Word → ℕ → Reader ℕ
number_at name most = do
  start ← item_at (is_word name)
  item_at (natural_in most)

unfoldable pub base_at : Reader ℤ
base_at = do
  start ← item_at (is_word (codes "base"))
  item_at signed_in

unfoldable pub entry_at : Reader Entry
entry_at = do
  start ← item_at (is_word (codes "entry"))
  kind ← item_at kind_in
  disp ← item_at signed_in
  give (record { kind = kind; disp = disp })

unfoldable pub value_at : Word → Reader Low
value_at name = do
  start ← item_at (is_word name)
  from ← item_at (natural_in 1024)
  to ← item_at (natural_in 1024)
  low ← item_at (natural_in 18446744073709551615)
  give (record { from = from; to = to; low = low })

-- no words behind what was read
abbrev pub no_more : {A : Type 0} → A → Words → Result A Words
no_more x [] = Ok x
no_more x (word ∷ words) = Err (word ∷ words)

abbrev pub whole_of : {A : Type 0} → Result (A × Words) Words → Result A Words
whole_of (Ok found) = no_more found.0 found.1
whole_of (Err left) = Err left
