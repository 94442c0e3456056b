use Rattle.std.specs.Prelude.{◌≡◌, Some, ℕ, ◌-◌, ◌<◌, ◌⊎◌, ℤ, pos, IsTrue, map, replicate, slice_index, slice_index_or, List, [], ◌∷◌, length}
use Rattle.std.specs.List.{All, AllByRecursion, reduce}
use Rattle.dt_kinds.specs.declared.kind.Kind.{Kind}
use Rattle.dt_kinds.specs.Bytes.{AreBytes}
use Rattle.dt_map.specs.declared.entry.Entry.{Entry}
use Rattle.dt_map.specs.Elements.{are_inside, IsByteOf, Overlaps}
use Rattle.dt_map.specs.Typemap.{Marked}
use Rattle.dt_ops.specs.Bracketing.{IsBracketing}
use Rattle.dt_ops.specs.Laws.{GivesWords, IsAssociative}
use Rattle.dt_reduce.specs.Folded.{kinds_of, AreWords, joined_row, folded_row, folded}
use Rattle.dt_reduce.specs.Merges.{Bracket, ShowsAt, merged}
use Rattle.dt_reduce.specs.Plan.{CanReduce, reduction_of}
use Rattle.dt_reduce.specs.Reduced.{word_at, reduced}

-- the word of each element of the target becomes what the source's word and its own are joined to, and each byte that is no element's
-- stays
abbrev pub WordsAreJoined : Type 0
WordsAreJoined =
    (join : Kind → ℕ → ℕ → ℕ) (m : Marked) (count : ℕ) (source_origin : ℤ) (source_len : ℕ) (target_origin : ℤ) (target_len : ℕ) (source target : List ℕ)
    → let r = reduction_of m count source_origin source_len target_origin target_len in
    let new = reduced join r.source r.target source target in
    GivesWords join → CanReduce r → length source ≡ source_len → length target ≡ target_len → AreBytes source → AreBytes target
    → ((k : ℕ) (d : Entry) → k < length r.target → let f = slice_index_or r.target k d in
    word_at new f ≡ join f.kind (word_at source (slice_index_or r.source k d)) (word_at target f))
    × ((x : ℕ) → All (λ f. ¬ IsByteOf (pos x) f) r.target → slice_index new x ≡ slice_index target x)

-- merges that bracket rows leave one, which is a bracketing of them
abbrev pub MergesAreBracketings : Type 0
MergesAreBracketings =
    (op : List ℕ → List ℕ → List ℕ) (rows : List (List ℕ)) (merges : List ℕ) → Bracket (length rows) merges
    → (row : List ℕ) × (merged op merges rows ≡ row ∷ []) × IsBracketing op rows row

-- merges bracket rows, of which there is one at least, or it shows at a place that they don't: never both, and at one place alone
abbrev pub MergesHaveOneAnswer : Type 0
MergesHaveOneAnswer =
    (n : ℕ) (merges : List ℕ) → 0 < n
    → (Bracket n merges ⊎ ((at : ℕ) × ShowsAt n merges at))
    × ((at : ℕ) → ShowsAt n merges at → ¬ Bracket n merges)
    × ((at other : ℕ) → ShowsAt n merges at → ShowsAt n merges other → at ≡ other)

-- merges that bracket rows of words leave what the rows are joined to from the first on
abbrev pub MergesAreFolded : Type 0
MergesAreFolded =
    (join : Kind → ℕ → ℕ → ℕ) (kinds : List Kind) (rows : List (List ℕ)) (merges : List ℕ) → GivesWords join → IsAssociative join
    → AllByRecursion (AreWords kinds) rows → Bracket (length rows) merges → merged (joined_row join kinds) merges rows ≡ folded_row join kinds rows ∷ []

-- the word of each element becomes what the ranks' words of the same number are joined to from the first on, and each byte that is no
-- element's stays
abbrev pub WordsAreFolded : Type 0
WordsAreFolded =
    (join : Kind → ℕ → ℕ → ℕ) (fs : List Entry) (rows : List (List ℕ)) (into : List ℕ)
    → let new = folded join fs rows into in
    GivesWords join → IsTrue (are_inside (length into) fs) → ¬ Overlaps fs → 0 < length rows → AllByRecursion (AreWords (kinds_of fs)) rows
    → ((k : ℕ) (d : Entry) → k < length fs → let f = slice_index_or fs k d in
    reduce (join f.kind) (map (λ row. slice_index row k) rows) ≡ Some (word_at new f))
    × ((x : ℕ) → All (λ f. ¬ IsByteOf (pos x) f) fs → slice_index new x ≡ slice_index into x)

-- merges at the first place, one less than there are rows, bracket them
abbrev pub ZerosBracket : Type 0
ZerosBracket = (n : ℕ) → 0 < n → Bracket n (replicate (n - 1) 0)
