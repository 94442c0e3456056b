-- Words of one kind that stand one after another.
use Rattle.std.specs.Prelude.{ℕ, zero, suc, List, [], ◌++◌, drop}
use Rattle.byteorder.specs.Endian.{little_number, little_bytes}
use Rattle.dt_kinds.specs.declared.kind.Kind.{Kind}
use Rattle.dt_kinds.specs.Kind.{native_size}

-- the bytes of what the first words of two lists are joined to
abbrev pub joined_word : (Kind → ℕ → ℕ → ℕ) → Kind → List ℕ → List ℕ → List ℕ
joined_word join kind source target = little_bytes (native_size kind) (join kind (little_number (native_size kind) source) (little_number (native_size kind) target))

-- the bytes of what the first n words of two lists are joined to, in their order
abbrev pub joined_words : (Kind → ℕ → ℕ → ℕ) → Kind → ℕ → List ℕ → List ℕ → List ℕ
joined_words join kind zero source target = []
joined_words join kind (suc n) source target = joined_word join kind source target ++ joined_words join kind n (drop (native_size kind) source) (drop (native_size kind) target)
