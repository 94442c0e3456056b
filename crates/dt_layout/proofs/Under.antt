-- Nested turns under which datatypes are written, and the offsets that they give.
use Rattle.std.specs.Prelude.{◌≡◌, ℕ, zero, suc, ◌*◌, ◌^◌, ◌<◌, ◌≤◌, ℤ, pos, ◌+ℤ◌, nat_abs, List, [], ◌∷◌, ◌++◌, length, take}
use Rattle.std.specs.List.{AllByRecursion}
use Rattle.std.proofs.Common.{sym, ap, subst, ◌∙◌, arith, append-nil}
use Rattle.std.proofs.lemmas.Int.{ints}
use Rattle.std.proofs.Math.Nat.{mul_comm}
use Rattle.dt_kinds.specs.Displacement.{FitsDisp}
use Rattle.dt_map.specs.declared.entry.Entry.{Entry}
use Rattle.dt_map.specs.Bounds.{size_of}
use Rattle.dt_map.specs.Typemap.{shift}
use Rattle.dt_map.proofs.Seats.{length-placed_at}
use Rattle.dt_offsets.specs.declared.turns.Turns.{Turns}
use Rattle.dt_offsets.specs.Near.{AreTurns}
use Rattle.dt_offsets.specs.Offsets.{turn_offsets, grid_offsets}
use Rattle.dt_offsets.proofs.GridAt.{pos_right}
use Rattle.dt_offsets.proofs.Lookups.{sums-zero}
use Rattle.dt_offsets.proofs.NearNumbers.{all_append}
use Rattle.dt_type.specs.declared.datatype.Seen.{Seen}
use Rattle.dt_type.specs.Conditions.{AreNested}
use Rattle.dt_type.specs.Datatype.{entries_of}
use Rattle.dt_type.specs.Listing.{entries_at, HaveDisps}
use Rattle.dt_type.proofs.ShapeNumbers.{all_more}
use Rattle.dt_layout.specs.Written.{AreClose, GiveOffsets, copies_under, AreLevels, IsWritten}
use Rattle.dt_layout.specs.Body.{Body}
use Rattle.dt_layout.specs.declared.instr.Instr.{Instr}
use Rattle.dt_layout.specs.Merging.{StandIn}
use Rattle.dt_layout.proofs.All.{all_sums, all_zip}
use Rattle.dt_layout.proofs.Copies.{copies_at_none, grid_of_grids, IsPlace, close_place, close_copies, close_places}

abbrev pub IsNearOffset : ℤ → Type 0
IsNearOffset x = nat_abs x < 2 ^ 63

-- one level, and more of them inside
gives_one : (t : Turns) (x : ℤ) → AllByRecursion (λ y. IsNearOffset (x +ℤ y)) (turn_offsets t) → GiveOffsets (t ∷ []) x
gives_one t x near = all_more (λ y. IsNearOffset (x +ℤ y)) (λ y. nat_abs (x +ℤ y) < 2 ^ 63 × Unit {0}) (λ y h. (h, tt)) (turn_offsets t) near

gives_more : (ts us : List Turns) (x : ℤ) → GiveOffsets ts x → AllByRecursion (λ g. GiveOffsets us (x +ℤ g)) (grid_offsets ts) → GiveOffsets (ts ++ us) x
gives_more [] us x gives inside = let same : x +ℤ pos 0 ≡ x = omega (arith, ints) in subst (GiveOffsets us) same inside.0
gives_more (t ∷ ts) us x gives inside =
    all_zip (λ y. nat_abs (x +ℤ y) < 2 ^ 63 × GiveOffsets ts (x +ℤ y)) (λ y. AllByRecursion (λ g. GiveOffsets us (x +ℤ (y +ℤ g))) (grid_offsets ts))
    (λ y. nat_abs (x +ℤ y) < 2 ^ 63 × GiveOffsets (ts ++ us) (x +ℤ y))
    (λ y given more. (
      given.0,
      gives_more ts us (x +ℤ y) given.1
          (all_more (λ g. GiveOffsets us (x +ℤ (y +ℤ g))) (λ g. GiveOffsets us ((x +ℤ y) +ℤ g)) (λ g h. let same : x +ℤ (y +ℤ g) ≡ (x +ℤ y) +ℤ g = omega (arith, ints) in subst (GiveOffsets us) same h) (grid_offsets ts) more),
    ))
    (turn_offsets t) gives (all_sums (λ g. GiveOffsets us (x +ℤ g)) (turn_offsets t) (grid_offsets ts) inside)

-- where the sums of the first turns are near, for any number of them
all_turned : {A : Type 0} (P : ℕ → A → Type 0) (xs : List A) → ((k : ℕ) → AllByRecursion (P k) xs) → AllByRecursion (λ x. (k : ℕ) → P k x) xs
all_turned P [] h = tt
all_turned P (x ∷ xs) h = (λ k. (h k).0, all_turned P xs (λ k. (h k).1))

gives_near : (ts : List Turns) (x : ℤ) → ((k : ℕ) → AllByRecursion (λ p. IsNearOffset (x +ℤ p)) (grid_offsets (take k ts))) → GiveOffsets ts x
gives_near [] x near = tt
gives_near (t ∷ ts) x near =
    let first : AllByRecursion (λ y. IsNearOffset (x +ℤ y)) (turn_offsets t) = subst (AllByRecursion (λ y. IsNearOffset (x +ℤ y))) (sums-zero (turn_offsets t)) (near (suc zero)) in
    let rest : AllByRecursion (λ y. (k : ℕ) → AllByRecursion (λ p. IsNearOffset (x +ℤ (y +ℤ p))) (grid_offsets (take k ts))) (turn_offsets t) =
    all_turned (λ k y. AllByRecursion (λ p. IsNearOffset (x +ℤ (y +ℤ p))) (grid_offsets (take k ts))) (turn_offsets t)
    (λ k. all_sums (λ p. IsNearOffset (x +ℤ p)) (turn_offsets t) (grid_offsets (take k ts)) (near (suc k))) in
    all_zip (λ y. IsNearOffset (x +ℤ y)) (λ y. (k : ℕ) → AllByRecursion (λ p. IsNearOffset (x +ℤ (y +ℤ p))) (grid_offsets (take k ts)))
    (λ y. nat_abs (x +ℤ y) < 2 ^ 63 × GiveOffsets ts (x +ℤ y))
    (λ y here more. (
      here,
      gives_near ts (x +ℤ y)
          (λ k. all_more (λ p. IsNearOffset (x +ℤ (y +ℤ p))) (λ p. IsNearOffset ((x +ℤ y) +ℤ p)) (λ p h. let same : x +ℤ (y +ℤ p) ≡ (x +ℤ y) +ℤ p = omega (arith, ints) in subst IsNearOffset same h) (grid_offsets (take k ts)) (more k)),
    ))
    (turn_offsets t) first rest

near_place : (x : ℤ) → IsPlace x → IsNearOffset x
near_place x h = omega (arith, h)

near_moved : (x p : ℤ) → IsPlace x → FitsDisp p → IsNearOffset (x +ℤ p)
near_moved x p h fits = let low = fits.0 in let high = fits.1 in omega (arith, ints)

-- the turns of a grid, whose copies stand at a place
gives_grid : (turns : List Turns) (es : List Entry) (x : ℤ) → AreNested turns → IsPlace x → 0 < length es → HaveDisps es → AreClose (shift x (entries_at (grid_offsets turns) es)) → GiveOffsets turns x
gives_grid [] es x nested place some fits close = tt
gives_grid (t ∷ []) es x nested place some fits close =
    let there : AreClose (shift x (entries_at (turn_offsets t) es)) = subst (λ ys. AreClose (shift x (entries_at ys es))) (sums-zero (turn_offsets t)) close in
    gives_one t x (all_more (λ y. IsPlace (x +ℤ y)) (λ y. IsNearOffset (x +ℤ y)) (λ y h. near_place (x +ℤ y) h) (turn_offsets t) (close_places x (turn_offsets t) es some fits there))
gives_grid (t ∷ u ∷ turns) es x nested place some fits close =
    gives_near (t ∷ u ∷ turns) x (λ k. all_more FitsDisp (λ p. IsNearOffset (x +ℤ p)) (λ p h. near_moved x p place h) (grid_offsets (take k (t ∷ u ∷ turns))) (nested.1 k))

-- how many copies
pub length-copies : (ys : List ℤ) (es : List Entry) → length (entries_at ys es) ≡ length ys * length es
length-copies ys es = length-placed_at ys es

pub some_one : (ys : List ℤ) (es : List Entry) → 0 < length (entries_at ys es) → 0 < length es
some_one ys es some = let e = length-copies ys es in pos_right (length ys) (length es) (omega arith)

-- levels under which a datatype is written, that were those of another one that places it by nested turns
pub deeper_levels : (levels turns : List Turns) (t old : Seen) → AreLevels levels t → AllByRecursion AreTurns turns → AreNested turns → HaveDisps (entries_of t) → HaveDisps (entries_of old)
    → entries_of t ≡ entries_at (grid_offsets turns) (entries_of old) → AreLevels (levels ++ turns) old
deeper_levels levels turns t old are turned nested fits fits_old placed =
    let es = entries_of old in
    let same : copies_under levels t ≡ copies_under (levels ++ turns) old = ap (entries_at (grid_offsets levels)) placed ∙ sym (grid_of_grids levels turns es) in
    let some_t : 0 < length (entries_of t) = some_one (grid_offsets levels) (entries_of t) are.some in
    let some_old : 0 < length es = some_one (grid_offsets turns) es (subst (λ s. 0 < length s) placed some_t) in
    record {
      turns = all_append AreTurns levels turns are.turns turned;
      some = subst (λ s. 0 < length s) same are.some;
      small = subst (λ s. size_of s ≤ 2 ^ 62) same are.small;
      offsets = λ x close.
          let there : AreClose (shift x (copies_under levels t)) = subst (λ s. AreClose (shift x s)) (sym same) close in
          gives_more levels turns x (are.offsets x there)
          (all_more (λ g. AreClose (shift (x +ℤ g) (entries_of t))) (λ g. GiveOffsets turns (x +ℤ g))
          (λ g h. gives_grid turns es (x +ℤ g) nested (close_place (x +ℤ g) (entries_of t) some_t fits h) some_old fits_old (subst (λ s. AreClose (shift (x +ℤ g) s)) placed h))
          (grid_offsets levels) (close_copies x (grid_offsets levels) (entries_of t) there));
    }

-- no level
pub no_level : (t : Seen) → 0 < length (entries_of t) → size_of (entries_of t) ≤ 2 ^ 62 → AreLevels [] t
no_level t some small =
    let same : copies_under [] t ≡ entries_of t = copies_at_none (entries_of t) in
    record {
      turns = tt;
      some = subst (λ s. 0 < length s) (sym same) some;
      small = subst (λ s. size_of s ≤ 2 ^ 62) (sym same) small;
      offsets = λ x close. tt;
    }

-- one level
pub copies_of_row : (turns : Turns) (t : Seen) (ys : List ℤ) → turn_offsets turns ≡ ys → copies_under (turns ∷ []) t ≡ entries_at ys (entries_of t)
copies_of_row turns t ys is = ap (λ ys. entries_at ys (entries_of t)) (sums-zero (turn_offsets turns) ∙ is)

pub row_level : (turns : Turns) (t : Seen) (ys : List ℤ) → turn_offsets turns ≡ ys → AreTurns turns → HaveDisps (entries_of t) → 0 < length (entries_at ys (entries_of t)) → size_of (entries_at ys (entries_of t)) ≤ 2 ^ 62
    → AreLevels (turns ∷ []) t
row_level turns t ys is are fits some small =
    let same = copies_of_row turns t ys is in
    record {
      turns = (are, tt);
      some = subst (λ s. 0 < length s) (sym same) some;
      small = subst (λ s. size_of s ≤ 2 ^ 62) (sym same) small;
      offsets = λ x close.
          let there : AreClose (shift x (entries_at (turn_offsets turns) (entries_of t))) =
          subst (λ s. AreClose (shift x s)) (same ∙ ap (λ ys. entries_at ys (entries_of t)) (sym is)) close in
          gives_one turns x (all_more (λ y. IsPlace (x +ℤ y)) (λ y. IsNearOffset (x +ℤ y)) (λ y h. near_place (x +ℤ y) h) (turn_offsets turns)
          (close_places x (turn_offsets turns) (entries_of t) (some_one ys (entries_of t) some) fits there));
    }

-- under levels that stand in for others
pub stand_levels : (all levels : List Turns) (t : Seen) → AreLevels all t → StandIn all levels → AreLevels levels t
stand_levels all levels t are stand =
    let es = entries_of t in
    record {
      turns = stand.turns;
      some = subst (λ s. 0 < length s) (sym (stand.same es)) are.some;
      small = subst (λ s. size_of s ≤ 2 ^ 62) (sym (stand.same es)) are.small;
      offsets = λ x close.
          let there : AreClose (shift x (copies_under all t)) = subst (λ s. AreClose (shift x s)) (stand.same es) close in
          subst (λ ts. GiveOffsets ts x) (append-nil levels) (stand.gives [] x (subst (λ ts. GiveOffsets ts x) (sym (append-nil all)) (are.offsets x there)));
    }

pub stand_written : (all levels : List Turns) (t : Seen) (old new : List Instr) (body : Body) → StandIn all levels → IsWritten levels t old new body → IsWritten all t old new body
stand_written all levels t old new body stand written =
    let few = stand.few in
    let short = written.short in
    let shallow = written.shallow in
    record {
      spelled = written.spelled;
      means = λ x. written.means x ∙ ap (shift x) (stand.same (entries_of t));
      lawful = written.lawful;
      short = omega (arith, few, short);
      shallow = omega (arith, few, shallow);
    }

pub some_offsets : (levels : List Turns) (t : Seen) → AreLevels levels t → 0 < length (grid_offsets levels)
some_offsets levels t are =
    let some = are.some in
    let long = length-copies (grid_offsets levels) (entries_of t) ∙ mul_comm (length (grid_offsets levels)) (length (entries_of t)) in
    pos_right (length (entries_of t)) (length (grid_offsets levels)) (omega (arith, some, long))
