use Rattle.std.specs.Prelude.{◌≡◌, ℕ, ◌-◌, ◌<◌, pos, nat_abs, List, take, length, slice_index, slice_index_or}
use Rattle.std.specs.List.{All}
use Rattle.dt_kinds.specs.declared.kind.Rep.TheVariants.{Native}
use Rattle.dt_copy.specs.Copied.{copied}
use Rattle.dt_copy.specs.Plan.{Copy, CanCopy}
use Rattle.dt_map.specs.declared.entry.Entry.{Entry}
use Rattle.dt_map.specs.Elements.{IsByteOf}
use Rattle.dt_map.specs.Packed.{bytes_at, packed}
use Rattle.dt_map.specs.Setting.{set}

-- copying sets the target's elements to the packed bytes of the source's, as they lie in memory
abbrev pub CopiedIsSet : Type 0
CopiedIsSet =
    (c : Copy) (source target : List ℕ) → length source ≡ c.source_len → length target ≡ c.target_len → CanCopy c
    → copied c.source c.target source target ≡ set Native c.target target 0 (length c.source) (packed Native c.source source)

-- each byte of an element that is written is that of the source's element with the same number
abbrev pub EachIsCopied : Type 0
EachIsCopied =
    (c : Copy) (source target : List ℕ) → length source ≡ c.source_len → length target ≡ c.target_len → CanCopy c
    → (k x : ℕ) (d : Entry) → k < length c.source → let e = slice_index_or c.source k d in let f = slice_index_or c.target k d in
    IsByteOf (pos x) f → slice_index (copied c.source c.target source target) x ≡ slice_index (bytes_at source e) (x - nat_abs f.disp)

-- the target keeps its length, and each byte of none of these elements
abbrev pub OthersAreKept : Type 0
OthersAreKept =
    (c : Copy) (source target : List ℕ) → length source ≡ c.source_len → length target ≡ c.target_len → CanCopy c
    → (length (copied c.source c.target source target) ≡ length target)
    × ((x : ℕ) → All (λ f. ¬ IsByteOf (pos x) f) (take (length c.source) c.target) → slice_index (copied c.source c.target source target) x ≡ slice_index target x)
