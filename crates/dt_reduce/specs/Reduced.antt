-- Elements of a target that are reduced by those of a source, word by word (MPI 4.1, section 6.9).
use Rattle.std.specs.Prelude.{ℕ, List, [], ◌∷◌, ◌++◌}
use Rattle.byteorder.specs.Endian.{little_number, little_bytes}
use Rattle.dt_kinds.specs.declared.kind.Kind.{Kind}
use Rattle.dt_kinds.specs.declared.kind.Rep.TheVariants.{Native}
use Rattle.dt_kinds.specs.Kind.{native_size}
use Rattle.dt_map.specs.declared.entry.Entry.{Entry}
use Rattle.dt_map.specs.Packed.{bytes_at}
use Rattle.dt_map.specs.Setting.{set_each}

-- the word of an element: the number that its bytes are, the lowest first
abbrev pub word_at : List ℕ → Entry → ℕ
word_at buffer e = little_number (native_size e.kind) (bytes_at buffer e)

-- the bytes of what the words of elements with the same number are joined to, the source's word first, in the order of the elements
abbrev pub joined_bytes : (Kind → ℕ → ℕ → ℕ) → List Entry → List Entry → List ℕ → List ℕ → List ℕ
joined_bytes join [] fs source target = []
joined_bytes join (e ∷ es) [] source target = []
joined_bytes join (e ∷ es) (f ∷ fs) source target =
    little_bytes (native_size f.kind) (join f.kind (word_at source e) (word_at target f)) ++ joined_bytes join es fs source target

-- the target in which each of its elements has the bytes of what its word and that of the source's element of the same number are
-- joined to, as both buffers are before; every other byte is as before
abbrev pub reduced : (Kind → ℕ → ℕ → ℕ) → List Entry → List Entry → List ℕ → List ℕ → List ℕ
reduced join es fs source target = set_each Native fs target (joined_bytes join es fs source target)
