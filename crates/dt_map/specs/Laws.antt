use Rattle.std.specs.Prelude.{◌≡◌, ℕ, suc, ◌+◌, ◌-◌, ◌*◌, ◌%◌, ◌≤◌, ◌<◌, ◌+ℤ◌, ◌-ℤ◌, ◌*ℤ◌, ◌≤ℤ◌, ℤ, pos, nat_abs, IsTrue, slice_index, slice_index_or, List, [], ◌∷◌, ◌++◌, map, length, take, drop}
use Rattle.std.specs.List.{flat_map, All}
use Rattle.dt_kinds.specs.declared.kind.Rep.{Rep}
use Rattle.dt_kinds.specs.declared.displacement.TheConstants.{DISP_MAX}
use Rattle.dt_kinds.specs.Displacement.{FitsDisp}
use Rattle.dt_kinds.specs.Kind.{packed_size}
use Rattle.dt_kinds.specs.Image.{restore}
use Rattle.dt_map.specs.declared.entry.Entry.{Entry}
use Rattle.dt_offsets.specs.Offsets.{below}
use Rattle.dt_map.specs.Numbers.{padding}
use Rattle.dt_map.specs.Typemap.{Marked, shift}
use Rattle.dt_map.specs.Bounds.{bounds_of, alignment, true_lb, true_ub, natural_ub, extent_of, lower, upper}
use Rattle.dt_map.specs.Placing.{place}
use Rattle.dt_map.specs.Constructors.{copies_at}
use Rattle.dt_map.specs.Elements.{elements, are_inside, IsByteOf, Overlaps}
use Rattle.dt_map.specs.Limits.{Fits}
use Rattle.dt_map.specs.Packed.{packed, total}
use Rattle.dt_map.specs.Setting.{done, set_each}
use Rattle.dt_map.specs.Summary.{summary_of, no_summary, shifted, joined, copied, bounds_from}
use Rattle.dt_offsets.specs.Span.{reach_of}

-- the padding makes a number a multiple, and no lesser one does
abbrev pub PaddingIsLeast : Type 0
PaddingIsLeast = (n a : ℕ) → 0 < a → ((n + padding n a) % a ≡ 0) × ((e : ℕ) → (n + e) % a ≡ 0 → padding n a ≤ e)

-- the natural upper bound is the least number from the true one on that makes the extent a multiple of the alignment
abbrev pub NaturalIsLeast : Type 0
NaturalIsLeast =
    (es : List Entry) → (true_ub es ≤ℤ natural_ub es)
    × (nat_abs (natural_ub es -ℤ true_lb es) % alignment es ≡ 0)
    × ((u : ℤ) → true_ub es ≤ℤ u → nat_abs (u -ℤ true_lb es) % alignment es ≡ 0 → natural_ub es ≤ℤ u)

-- bounds are made from a summary
abbrev pub BoundsFromSummary : Type 0
BoundsFromSummary = (m : Marked) → bounds_of m ≡ bounds_from (summary_of m)

-- the summary of nothing placed, of one typemap placed, and of more of them
abbrev pub SummaryOfNone : Type 0
SummaryOfNone = summary_of (place []) ≡ no_summary

abbrev pub SummaryOfShifted : Type 0
SummaryOfShifted = (x : ℤ) (m : Marked) → summary_of (place ((x, m) ∷ [])) ≡ shifted x (summary_of m)

abbrev pub SummaryOfJoined : Type 0
SummaryOfJoined =
    (ms ns : List (ℤ × Marked)) → summary_of (place (ms ++ ns)) ≡ joined (summary_of (place ms)) (summary_of (place ns))

-- the summary of copies at offsets takes their number and their reach alone
abbrev pub SummaryOfCopies : Type 0
SummaryOfCopies = (offsets : List ℤ) (m : Marked) → summary_of (copies_at offsets m) ≡ copied (reach_of offsets) (length offsets) (summary_of m)

-- the elements are what copies at multiples of the extent place, from the origin on
abbrev pub ElementsArePlaced : Type 0
ElementsArePlaced =
    (m : Marked) (n : ℕ) (origin : ℤ) → elements m n origin ≡ shift origin (copies_at (map (λ i. pos i *ℤ extent_of m) (below n)) m).entries

-- the elements of one copy more
abbrev pub ElementsOfMore : Type 0
ElementsOfMore =
    (m : Marked) (n : ℕ) (origin : ℤ) → elements m (suc n) origin ≡ elements m n origin ++ shift (origin +ℤ (pos n *ℤ extent_of m)) m.entries

-- the packed bytes of an operation, by arithmetic
abbrev pub TotalOfElements : Type 0
TotalOfElements = (rep : Rep) (m : Marked) (n : ℕ) (origin : ℤ) → total rep (elements m n origin) ≡ n * total rep m.entries

-- members further on
abbrev pub further : ℤ → List (ℤ × Marked) → List (ℤ × Marked)
further x members = map (λ member. (member.0 +ℤ x, member.1)) members

-- placing what was placed is placing once, at the sums of the offsets
abbrev pub PlacingOfPlacing : Type 0
PlacingOfPlacing = (groups : List (ℤ × List (ℤ × Marked))) → place (map (λ group. (group.0, place group.1)) groups) ≡ place (flat_map (λ group. further group.0 group.1) groups)

-- `done` is the greatest number of leading elements whose packed bytes are at most n
abbrev pub DoneIsGreatest : Type 0
DoneIsGreatest =
    (rep : Rep) (es : List Entry) (n : ℕ) → (done rep es n ≤ length es)
    × (total rep (take (done rep es n) es) ≤ n)
    × ((k : ℕ) → k ≤ length es → total rep (take k es) ≤ n → k ≤ done rep es n)

-- elements inside a buffer have as many packed bytes as their total says
abbrev pub PackedHasTotal : Type 0
PackedHasTotal =
    (rep : Rep) (es : List Entry) (buffer : List ℕ) → IsTrue (are_inside (length buffer) es) → length (packed rep es buffer) ≡ total rep es

-- the image of element i, where images stand one after another
abbrev pub image_at : Rep → List Entry → ℕ → Entry → List ℕ → List ℕ
image_at rep es i e images = take (packed_size rep e.kind) (drop (total rep (take i es)) images)

-- setting elements keeps the buffer's length and each byte that is no element's
abbrev pub SettingKeepsTheRest : Type 0
SettingKeepsTheRest =
    (rep : Rep) (es : List Entry) (buffer images : List ℕ) → IsTrue (are_inside (length buffer) es) → total rep es ≤ length images
    → (length (set_each rep es buffer images) ≡ length buffer)
    × ((x : ℕ) → All (λ e. ¬ IsByteOf (pos x) e) es → slice_index (set_each rep es buffer images) x ≡ slice_index buffer x)

-- setting elements that don't overlap gives each byte of one of them what its image stands for
abbrev pub SettingSetsEach : Type 0
SettingSetsEach =
    (rep : Rep) (es : List Entry) (buffer images : List ℕ) → IsTrue (are_inside (length buffer) es) → total rep es ≤ length images → ¬ Overlaps es
    → (i x : ℕ) (d : Entry) → i < length es → let e = slice_index_or es i d in
    IsByteOf (pos x) e → slice_index (set_each rep es buffer images) x ≡ slice_index (restore rep e.kind (image_at rep es i e images)) (x - nat_abs e.disp)

-- the bounds of a typemap in range are in range, but that the natural upper bound may pass the limit by at most 7
abbrev pub BoundsAreInRange : Type 0
BoundsAreInRange =
    (m : Marked) → Fits m → FitsDisp (true_lb m.entries) × FitsDisp (true_ub m.entries) × FitsDisp (lower m)
    × ((pos 0 -ℤ DISP_MAX) ≤ℤ upper m) × (upper m ≤ℤ (DISP_MAX +ℤ pos 7))
