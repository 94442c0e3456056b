use Rattle.std.specs.Prelude.{◌≡◌, ℕ, ◌≤◌, List, [], ◌∷◌, ◌↔◌, Ok, Err}
use Rattle.std.specs.List.{Contains}
use Rattle.dt_kinds.specs.declared.kind.Kind.{Kind}
use Rattle.dt_kinds.specs.declared.kind.KindFault.TheVariants.{Unsupported}
use Rattle.dt_kinds.specs.Kind.{native_size, external_size, name_of}
use Rattle.dt_kinds.specs.Name.{kind_of, Names, left_out}

-- a word is read as a kind exactly where it names it
abbrev pub NamesAreRead : Type 0
NamesAreRead = (word : List ℕ) (kind : Kind) → (kind_of word ≡ Ok kind) ↔ Names word kind

-- a word is unsupported exactly where it is one of the names that are left out
abbrev pub LeftOutIsUnsupported : Type 0
LeftOutIsUnsupported = (word : List ℕ) → (kind_of word ≡ Err Unsupported) ↔ Contains left_out word

-- no two kinds share a name
abbrev pub NamesDiffer : Type 0
NamesDiffer = (a b : Kind) → name_of a ≡ name_of b → a ≡ b

-- each size is 1, 2, 4 or 8
abbrev pub SizesArePowers : Type 0
SizesArePowers = (kind : Kind) → Contains (1 ∷ 2 ∷ 4 ∷ 8 ∷ []) (native_size kind) × Contains (1 ∷ 2 ∷ 4 ∷ 8 ∷ []) (external_size kind)

-- no element has more bytes in external32 than in memory
abbrev pub ExternalIsNoLarger : Type 0
ExternalIsNoLarger = (kind : Kind) → external_size kind ≤ native_size kind
