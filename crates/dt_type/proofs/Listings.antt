-- Entries listed copy by copy.
use Rattle.std.specs.Prelude.{◌≡◌, None, ℕ, zero, suc, ◌+◌, ◌*◌, ◌/◌, ◌<◌, ℤ, pos, ◌+ℤ◌, ◌*ℤ◌, List, [], ◌∷◌, ◌++◌, map, length, take, get_or}
use Rattle.std.specs.List.{All, AllByRecursion, flat_map}
use Rattle.std.proofs.Common.{refl, sym, ap, subst, ◌∙◌, arith, append_assoc}
use Rattle.std.proofs.lemmas.Grind.{flat_map-append}
use Rattle.std.proofs.lemmas.List.{map-append, append-nil, take_more}
use Rattle.std.proofs.lemmas.List.Elements.{All-head, All-tail}
use Rattle.std.proofs.lemmas.List.Folds.{flat_map-map}
use Rattle.std.proofs.lemmas.Option.{get_or_from_slice_get}
use Rattle.std.proofs.Math.Nat.{mul-div_cancel}
use Rattle.dt_kinds.specs.Displacement.{FitsDisp}
use Rattle.dt_map.specs.declared.entry.Entry.{Entry}
use Rattle.dt_map.specs.Constructors.{copies_at}
use Rattle.dt_map.specs.Limits.{EntryFits, IsInRange}
use Rattle.dt_offsets.specs.Offsets.{below, row_offsets, grid_offsets, spot_offsets}
use Rattle.dt_map.specs.Typemap.{Marked, shift}
use Rattle.dt_type.specs.declared.datatype.Seen.{Seen}
use Rattle.dt_type.specs.declared.shape.ShapeOf.{ShapeOf}
use Rattle.dt_type.specs.declared.shape.ShapeOf.TheVariants.{Grid, Each, Seq}
use Rattle.dt_type.specs.declared.shape.ShapePartOf.{ShapePartOf}
use Rattle.dt_offsets.specs.declared.turns.Spot.{Spot}
use Rattle.dt_offsets.specs.declared.turns.Turns.{Turns}
use Rattle.dt_type.specs.Datatype.{typemap_of, entries_of}
use Rattle.dt_type.specs.Listing.{entries_at, HaveDisps}
use Rattle.dt_type.specs.Shape.{placed_by, placed_parts}
use Rattle.dt_map.proofs.Digests.{length-copies}
use Rattle.dt_type.proofs.EntryFits.{entries_fit}
use Rattle.dt_offsets.proofs.GridAt.{pos_right, row_at}
use Rattle.dt_type.proofs.Lookups.{part_entries, entries-parts}
use Rattle.dt_offsets.proofs.Lookups.{flat_map-flat_map}
use Rattle.dt_offsets.proofs.Reaches.{count-row}

-- what is appended after what was appended before
pub after : {A : Type 0} (old mid new before here all : List A) → mid ≡ old ++ before → new ≡ mid ++ here → before ++ here ≡ all → new ≡ old ++ all
after old mid new before here all e f g = f ∙ ap (λ s. s ++ here) e ∙ append_assoc old before here ∙ ap (λ s. old ++ s) g

pub nothing_after : {A : Type 0} (old all : List A) → [] ≡ all → old ≡ old ++ all
nothing_after old all e = sym (append-nil old) ∙ ap (λ s. old ++ s) e

-- one more copy
pub copy_more : (xs : List ℤ) (es : List Entry) (k : ℕ) (d : ℤ) → k < length xs → entries_at (take k xs) es ++ shift (get_or xs k d) es ≡ entries_at (take (k + 1) xs) es
copy_more xs es k d lt =
    sym (ap (λ ys. entries_at ys es) (take_more xs k d lt) ∙ flat_map-append (λ x. shift x es) (take k xs) (get_or xs k d ∷ [])
    ∙ ap (λ s. entries_at (take k xs) es ++ s) (append-nil (shift (get_or xs k d) es)))

pub row_more : (first step : ℤ) (es : List Entry) (k : ℕ) → entries_at (row_offsets first k step) es ++ shift (first +ℤ (pos k *ℤ step)) es ≡ entries_at (row_offsets first (k + 1) step) es
row_more first step es k =
    let next : k + 1 ≡ suc k = omega arith in
    let at : ℕ → ℤ = λ j. first +ℤ (pos j *ℤ step) in
    sym (ap (λ n. entries_at (row_offsets first n step) es) next ∙ ap (λ ys. entries_at ys es) (map-append at (below k) (k ∷ []))
    ∙ flat_map-append (λ x. shift x es) (map at (below k)) (at k ∷ []) ∙ ap (λ s. entries_at (row_offsets first k step) es ++ s) (append-nil (shift (at k) es)))

pub spot_more : (spots : List Spot) (es : List Entry) (k : ℕ) (d : Spot) → k < length spots
    → entries_at (spot_offsets (take k spots)) es ++ entries_at (row_offsets (get_or spots k d).first (get_or spots k d).copies (get_or spots k d).step) es ≡ entries_at (spot_offsets (take (k + 1) spots)) es
spot_more spots es k d lt =
    let s = get_or spots k d in
    sym (ap (λ ss. entries_at (spot_offsets ss) es) (take_more spots k d lt)
    ∙ ap (λ ys. entries_at ys es) (flat_map-append (λ (x : Spot). row_offsets x.first x.copies x.step) (take k spots) (s ∷ []) ∙ ap (λ ys. spot_offsets (take k spots) ++ ys) (append-nil (row_offsets s.first s.copies s.step)))
    ∙ flat_map-append (λ x. shift x es) (spot_offsets (take k spots)) (row_offsets s.first s.copies s.step))

-- copies of nothing
pub none_at : (xs : List ℤ) → [] ≡ entries_at xs []
none_at [] = refl
none_at (x ∷ xs) = none_at xs

copies-entries : (xs : List ℤ) (m : Marked) → (copies_at xs m).entries ≡ entries_at xs m.entries
copies-entries xs m = flat_map-map (λ (member : ℤ × Marked). shift member.0 member.1.entries) (λ x. (x, m)) xs

-- what holds of all holds of a piece
all_parts : {A : Type 0} (P : A → Type 0) (xs ys : List A) → AllByRecursion P (xs ++ ys) → AllByRecursion P xs × AllByRecursion P ys
all_parts P [] ys h = (tt, h)
all_parts P (x ∷ xs) ys h = let rest = all_parts P xs ys h.1 in ((h.0, rest.0), rest.1)

all_in : {X A : Type 0} (P : A → Type 0) (f : X → List A) (xs : List X) (k : ℕ) (d : X) → k < length xs → AllByRecursion P (flat_map f xs) → AllByRecursion P (f (get_or xs k d))
all_in P f [] k d lt h = absurd (omega arith)
all_in P f (x ∷ xs) zero d lt h = (all_parts P (f x) (flat_map f xs) h).0
all_in P f (x ∷ xs) (suc k) d lt h = all_in P f xs k d (omega arith) (all_parts P (f x) (flat_map f xs) h).1

pub disp_at : (x : ℤ) (es : List Entry) (k : ℕ) (d : Entry) → k < length es → HaveDisps (shift x es) → FitsDisp ((get_or es k d).disp +ℤ x)
disp_at x [] k d lt h = absurd (omega arith)
disp_at x (e ∷ es) zero d lt h = h.0
disp_at x (e ∷ es) (suc k) d lt h = disp_at x es k d (omega arith) h.1

pub copy_fits : (xs : List ℤ) (es : List Entry) (k : ℕ) (d : ℤ) → k < length xs → HaveDisps (entries_at xs es) → HaveDisps (shift (get_or xs k d) es)
copy_fits xs es k d lt h = all_in (λ (e : Entry). FitsDisp e.disp) (λ x. shift x es) xs k d lt h

pub row_fits : (first step : ℤ) (n : ℕ) (es : List Entry) (k : ℕ) → k < n → HaveDisps (entries_at (row_offsets first n step) es) → HaveDisps (shift (first +ℤ (pos k *ℤ step)) es)
row_fits first step n es k lt h =
    let long = count-row first step n in
    let at : get_or (row_offsets first n step) k (pos 0) ≡ first +ℤ (pos k *ℤ step) =
    get_or_from_slice_get (row_offsets first n step) k (first +ℤ (pos k *ℤ step)) (pos 0) (row_at first step n k lt) in
    subst (λ x. HaveDisps (shift x es)) at (copy_fits (row_offsets first n step) es k (pos 0) (omega arith) h)

pub spot_fits : (spots : List Spot) (es : List Entry) (k : ℕ) (d : Spot) → k < length spots → HaveDisps (entries_at (spot_offsets spots) es)
    → HaveDisps (entries_at (row_offsets (get_or spots k d).first (get_or spots k d).copies (get_or spots k d).step) es)
spot_fits spots es k d lt h =
    let row : Spot → List ℤ = λ s. row_offsets s.first s.copies s.step in
    all_in (λ (e : Entry). FitsDisp e.disp) (λ s. entries_at (row s) es) spots k d lt (subst HaveDisps (flat_map-flat_map (λ x. shift x es) row spots) h)

-- how many entries copies have, and how many copies
length-entries_at : (xs : List ℤ) (es : List Entry) → length (entries_at xs es) ≡ length xs * length es
length-entries_at xs es =
    let m : Marked = record { entries = es; marks = None } in
    ap length (sym (copies-entries xs m)) ∙ length-copies xs m

module _ (xs : List ℤ) (es : List Entry) (n : ℕ) (is : n ≡ length (entries_at xs es)) (some : 0 < n) where
  total : n ≡ length xs * length es
  total = is ∙ length-entries_at xs es

  pub one_some : 0 < length es
  one_some = let e = total in pos_right (length xs) (length es) (omega arith)

  pub copies_are : n / length es ≡ length xs
  copies_are = ap (λ k. k / length es) total ∙ mul-div_cancel (length xs) one_some

-- what is listed of a type in range is in range
holds_all : (es : List Entry) → All EntryFits es → HaveDisps es
holds_all [] all = tt
holds_all (e ∷ es) all = ((All-head EntryFits e es all).0, holds_all es (All-tail EntryFits e es all))

pub in_range_fits : (m : Marked) → IsInRange m → HaveDisps m.entries
in_range_fits m range = holds_all m.entries (entries_fit m range)

-- the entries of parts, part by part
part_listed : (p : ShapePartOf Seen) → part_entries p ≡ entries_at (row_offsets p.first p.copies p.step) (entries_of p.old)
part_listed p = copies-entries (row_offsets p.first p.copies p.step) (typemap_of p.old)

no_copies : (p : ShapePartOf Seen) → p.copies ≡ 0 → [] ≡ part_entries p
no_copies p e = sym (ap (λ n. (copies_at (row_offsets p.first n p.step) (typemap_of p.old)).entries) e)

module _ (parts : List (ShapePartOf Seen)) (i : ℕ) (p : ShapePartOf Seen) (lt : i < length parts) (is : p ≡ get_or parts i p) where
  more : flat_map part_entries (take i parts) ++ part_entries p ≡ flat_map part_entries (take (i + 1) parts)
  more =
      sym (ap (flat_map part_entries) (take_more parts i p lt ∙ ap (λ q. take i parts ++ q ∷ []) (sym is)) ∙ flat_map-append part_entries (take i parts) (p ∷ [])
      ∙ ap (λ s. flat_map part_entries (take i parts) ++ s) (append-nil (part_entries p)))

  pub part_skipped : (out : List Entry) → out ≡ flat_map part_entries (take i parts) → p.copies ≡ 0 → out ≡ flat_map part_entries (take (i + 1) parts)
  part_skipped out e none = e ∙ sym (append-nil (flat_map part_entries (take i parts))) ∙ ap (λ s. flat_map part_entries (take i parts) ++ s) (no_copies p none) ∙ more

  pub part_more : (out new one : List Entry) → out ≡ flat_map part_entries (take i parts) → one ≡ entries_of p.old
      → new ≡ out ++ entries_at (row_offsets p.first p.copies p.step) one → new ≡ flat_map part_entries (take (i + 1) parts)
  part_more out new one e same f =
      f ∙ ap (λ s. s ++ entries_at (row_offsets p.first p.copies p.step) one) e
      ∙ ap (λ s. flat_map part_entries (take i parts) ++ s) (ap (entries_at (row_offsets p.first p.copies p.step)) same ∙ sym (part_listed p)) ∙ more

  pub part_fits : (one : List Entry) → one ≡ entries_of p.old → HaveDisps (placed_parts parts).entries → HaveDisps (entries_at (row_offsets p.first p.copies p.step) one)
  part_fits one same h =
      let each = subst HaveDisps (entries-parts parts) h in
      let here = all_in (λ (e : Entry). FitsDisp e.disp) part_entries parts i p lt each in
      subst HaveDisps (ap part_entries (sym is) ∙ part_listed p ∙ ap (entries_at (row_offsets p.first p.copies p.step)) (sym same)) here

-- all that was appended
pub whole : (out new all es : List Entry) → new ≡ out ++ all → out ≡ [] → es ≡ all → new ≡ es
whole out new all es e none same = e ∙ ap (λ s. s ++ all) none ∙ sym same

-- the entries of a datatype, as its shape places what is listed of its old types
pub grid_listed : (s : ShapeOf Seen) (es one : List Entry) (ts turns : List Turns) (old : Seen) → (placed_by s).entries ≡ es → s ≡ Grid turns old → ts ≡ turns → one ≡ entries_of old
    → es ≡ entries_at (grid_offsets ts) one
grid_listed s es one ts turns old placed is same listed =
    sym placed ∙ ap (λ (s : ShapeOf Seen). (placed_by s).entries) is ∙ copies-entries (grid_offsets turns) (typemap_of old)
    ∙ ap (λ ts. entries_at (grid_offsets ts) (entries_of old)) (sym same) ∙ ap (entries_at (grid_offsets ts)) (sym listed)

pub spots_listed : (s : ShapeOf Seen) (es one : List Entry) (ss spots : List Spot) (old : Seen) → (placed_by s).entries ≡ es → s ≡ Each spots old → ss ≡ spots → one ≡ entries_of old
    → es ≡ entries_at (spot_offsets ss) one
spots_listed s es one ss spots old placed is same listed =
    sym placed ∙ ap (λ (s : ShapeOf Seen). (placed_by s).entries) is ∙ copies-entries (spot_offsets spots) (typemap_of old)
    ∙ ap (λ ss. entries_at (spot_offsets ss) (entries_of old)) (sym same) ∙ ap (entries_at (spot_offsets ss)) (sym listed)

pub parts_listed : (s : ShapeOf Seen) (es : List Entry) (ps parts : List (ShapePartOf Seen)) → (placed_by s).entries ≡ es → s ≡ Seq parts → ps ≡ parts → es ≡ (placed_parts ps).entries
parts_listed s es ps parts placed is same =
    sym placed ∙ ap (λ (s : ShapeOf Seen). (placed_by s).entries) is ∙ ap (λ (ps : List (ShapePartOf Seen)). (placed_parts ps).entries) (sym same)
