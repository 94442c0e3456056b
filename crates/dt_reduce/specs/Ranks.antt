-- The ranks of a reduction, why one isn't added, and why they aren't reduced.
use Rattle.std.specs.Prelude.{◌≡◌, ℕ, ◌+◌, ◌*◌, ◌<◌, ◌≤◌, ℤ, pos, IsTrue, List, [], ◌∷◌, ◌++◌, length}
use Rattle.dt_kinds.specs.declared.kind.Rep.TheVariants.{Native}
use Rattle.dt_map.specs.declared.entry.Entry.{Entry}
use Rattle.dt_map.specs.Elements.{elements, are_inside, Overlaps}
use Rattle.dt_map.specs.Packed.{total}
use Rattle.dt_map.specs.Typemap.{Marked}
use Rattle.dt_reduce.specs.Folded.{words_of}
use Rattle.dt_reduce.specs.Merges.{Bracket, ShowsAt}
use Rattle.dt_reduce.specs.declared.fault.AllFault.{AllFault}
use Rattle.dt_reduce.specs.declared.fault.AllFault.TheVariants as all
use Rattle.dt_reduce.specs.declared.fault.RanksFault.{RanksFault}
use Rattle.dt_reduce.specs.declared.fault.RanksFault.TheVariants as ranks

-- the typemap of a datatype, how many copies of it each rank has, and the words of each rank's elements, in the order in which the ranks
-- were added
pub record Ranked : Type 0 where
  pub typemap : Marked
  pub count : ℕ
  pub rows : List (List ℕ)

-- no ranks
abbrev pub without_ranks : Marked → ℕ → Ranked
without_ranks m count = record { typemap = m; count = count; rows = [] }

-- the elements, where the operation begins at an origin
abbrev pub elements_at : Ranked → ℤ → List Entry
elements_at r origin = elements r.typemap r.count origin

-- one rank more, whose elements are those of a buffer
abbrev pub with_rank : Ranked → ℤ → List ℕ → Ranked
with_rank r origin buffer = record r { rows = r.rows ++ words_of (elements_at r origin) buffer ∷ [] }

-- how many bytes the elements of so many ranks have, packed natively
abbrev pub bytes_of : Ranked → ℕ → ℕ
bytes_of r number = total Native (elements_at r (pos 0)) * number

-- the elements lie inside a buffer
abbrev pub AreInside : Ranked → ℤ → ℕ → Type 0
AreInside r origin len = IsTrue (are_inside len (elements_at r origin))

-- then, there is room for one rank more
pub record HaveRoom (r : Ranked) (origin : ℤ) (len : ℕ) : Type 0 where
  pub inside : AreInside r origin len
  pub room : length r.rows < 1024

-- then, the bytes aren't too many: it can be added
pub record CanAdd (r : Ranked) (origin : ℤ) (len : ℕ) : Type 0 where
  pub room : HaveRoom r origin len
  pub small : bytes_of r (length r.rows + 1) ≤ 16777216

-- why a rank isn't added
abbrev pub IsNotAdded : Ranked → ℤ → ℕ → RanksFault → Type 0
IsNotAdded r origin len ranks.Outside = ¬ AreInside r origin len
IsNotAdded r origin len ranks.Full = AreInside r origin len × (length r.rows ≡ 1024)
IsNotAdded r origin len ranks.TooLarge = HaveRoom r origin len × (16777216 < bytes_of r (length r.rows + 1))
IsNotAdded r origin len ranks.NoMemory = CanAdd r origin len

-- merges bracket the ranks, of which there is one at least
abbrev pub AreBracketed : Ranked → List ℕ → Type 0
AreBracketed r merges = Bracket (length r.rows) merges

-- then, the elements lie inside the buffer that is to take what the ranks are joined to
pub record ArePlaced (r : Ranked) (merges : List ℕ) (origin : ℤ) (len : ℕ) : Type 0 where
  pub bracketed : AreBracketed r merges
  pub inside : AreInside r origin len

-- then, no two of them have a common byte: the ranks can be reduced
pub record CanReduceAll (r : Ranked) (merges : List ℕ) (origin : ℤ) (len : ℕ) : Type 0 where
  pub placed : ArePlaced r merges origin len
  pub apart : ¬ Overlaps (elements_at r origin)

-- why ranks aren't reduced
abbrev pub AreNotReduced : Ranked → List ℕ → ℤ → ℕ → AllFault → Type 0
AreNotReduced r merges origin len all.Empty = length r.rows ≡ 0
AreNotReduced r merges origin len (all.BadMerge at) = (0 < length r.rows) × ShowsAt (length r.rows) merges at
AreNotReduced r merges origin len all.Outside = AreBracketed r merges × ¬ AreInside r origin len
AreNotReduced r merges origin len all.Overlap = ArePlaced r merges origin len × Overlaps (elements_at r origin)
AreNotReduced r merges origin len all.NoMemory = ArePlaced r merges origin len
