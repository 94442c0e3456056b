-- The packed bytes of ranks, and the words that they are.
use Rattle.std.specs.Prelude.{◌≡◌, ℕ, ◌≤◌, ℤ, pos, List, [], ◌∷◌, map, drop, length}
use Rattle.std.specs.Global.{Vec}
use Rattle.std.specs.List.{AllByRecursion}
use Rattle.byteorder.specs.Endian.{little_number}
use Rattle.dt_kinds.specs.Bytes.{AreBytes}
use Rattle.dt_kinds.specs.declared.kind.Kind.{Kind}
use Rattle.dt_kinds.specs.declared.kind.Rep.TheVariants.{Native}
use Rattle.dt_kinds.specs.Kind.{native_size}
use Rattle.dt_map.specs.declared.entry.Entry.{Entry}
use Rattle.dt_map.specs.Elements.{elements, Overlaps}
use Rattle.dt_map.specs.Packed.{total}
use Rattle.dt_map.specs.Typemap.{Marked}
use Rattle.dt_reduce.specs.Folded.{kinds_of, joined_row, bytes_of_row}
use Rattle.dt_reduce.specs.Ranks.{Ranked, elements_at, bytes_of, AreInside}
use Rattle.dt_reduce.specs.declared.fault.AllFault.{AllFault}
use Rattle.dt_reduce.specs.declared.fault.AllFault.TheVariants as all

-- the words of such kinds that bytes are, one after another
abbrev pub row_of : List Kind → List ℕ → List ℕ
row_of [] bytes = []
row_of (kind ∷ kinds) bytes = little_number (native_size kind) bytes ∷ row_of kinds (drop (native_size kind) bytes)

-- the bytes of what the words of such kinds in two lists of bytes are joined to
abbrev pub joined_packed : (Kind → ℕ → ℕ → ℕ) → List Kind → List ℕ → List ℕ → List ℕ
joined_packed join kinds source target = bytes_of_row kinds (joined_row join kinds (row_of kinds source) (row_of kinds target))

-- the rows of words that the bytes of ranks are
abbrev pub rows_of : List Kind → List (Vec ℕ) → List (List ℕ)
rows_of kinds stored = map (λ bytes. row_of kinds bytes.items) stored

-- the ranks whose bytes these are
abbrev pub ranked_of : Marked → ℕ → List (Vec ℕ) → Ranked
ranked_of m count stored = record { typemap = m; count = count; rows = rows_of (kinds_of (elements m count (pos 0))) stored }

-- packed bytes of elements
pub record ArePacked (es : List Entry) (stored : List ℕ) : Type 0 where
  pub all : length stored ≡ total Native es
  pub bytes : AreBytes stored

abbrev pub ArePackedRows : List Entry → List (Vec ℕ) → Type 0
ArePackedRows es stored = AllByRecursion (λ bytes. ArePacked es bytes.items) stored

-- what holds of the bytes of ranks: each has those of its elements, and neither ranks nor bytes are too many
pub record AreKept (r : Ranked) (stored : List (Vec ℕ)) : Type 0 where
  pub few : length stored ≤ 1024
  pub small : bytes_of r (length stored) ≤ 16777216
  pub packed : ArePackedRows (elements_at r (pos 0)) stored

-- why there is no session over the elements
abbrev pub IsNoTarget : Ranked → ℤ → ℕ → AllFault → Type 0
IsNoTarget r origin len all.Outside = ¬ AreInside r origin len
IsNoTarget r origin len all.Overlap = AreInside r origin len × Overlaps (elements_at r origin)
IsNoTarget r origin len all.NoMemory = AreInside r origin len
IsNoTarget r origin len fault = ⊥
