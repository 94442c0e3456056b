-- The words of several ranks that are joined in the order of the ranks, element by element (MPI 4.1, section 6.9).
use Rattle.std.specs.Prelude.{ℕ, unwrap_or, List, [], ◌∷◌, ◌++◌, map}
use Rattle.std.specs.List.{AllZip, reduce}
use Rattle.byteorder.specs.Endian.{little_bytes}
use Rattle.dt_kinds.specs.declared.kind.Kind.{Kind}
use Rattle.dt_kinds.specs.declared.kind.Rep.TheVariants.{Native}
use Rattle.dt_kinds.specs.Kind.{native_size}
use Rattle.dt_map.specs.declared.entry.Entry.{Entry}
use Rattle.dt_map.specs.Setting.{set_each}
use Rattle.dt_ops.specs.Word.{IsWord}
use Rattle.dt_reduce.specs.Reduced.{word_at}

-- the kinds of elements
abbrev pub kinds_of : List Entry → List Kind
kinds_of es = map (λ e. e.kind) es

-- the words of elements in a buffer: a row
abbrev pub words_of : List Entry → List ℕ → List ℕ
words_of es buffer = map (word_at buffer) es

-- a row of words of such kinds
abbrev pub AreWords : List Kind → List ℕ → Type 0
AreWords kinds words = AllZip IsWord kinds words

-- what two rows of words of such kinds are joined to, word by word
abbrev pub joined_row : (Kind → ℕ → ℕ → ℕ) → List Kind → List ℕ → List ℕ → List ℕ
joined_row join (kind ∷ kinds) (a ∷ first) (b ∷ second) = join kind a b ∷ joined_row join kinds first second
joined_row join kinds first second = []

-- what rows are joined to from the first on; of no rows, no words
abbrev pub folded_row : (Kind → ℕ → ℕ → ℕ) → List Kind → List (List ℕ) → List ℕ
folded_row join kinds rows = unwrap_or (reduce (joined_row join kinds) rows) []

-- the bytes of words of such kinds, one word after another, the lowest byte of each first
abbrev pub bytes_of_row : List Kind → List ℕ → List ℕ
bytes_of_row (kind ∷ kinds) (word ∷ words) = little_bytes (native_size kind) word ++ bytes_of_row kinds words
bytes_of_row kinds words = []

-- the bytes of what the ranks' words of each element are joined to, in the order in which the ranks were added
abbrev pub folded_bytes : (Kind → ℕ → ℕ → ℕ) → List Entry → List (List ℕ) → List ℕ
folded_bytes join es rows = bytes_of_row (kinds_of es) (folded_row join (kinds_of es) rows)

-- a buffer in which the word of each element is what the ranks' words of the same number are joined to, in the order in which the ranks
-- were added; every other byte is as before
abbrev pub folded : (Kind → ℕ → ℕ → ℕ) → List Entry → List (List ℕ) → List ℕ → List ℕ
folded join fs rows into = set_each Native fs into (folded_bytes join fs rows)
