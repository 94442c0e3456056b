-- What vectors of a kind, rows of them, and single entries place.
use Rattle.std.proofs.Common.{◌≡◌, ℕ, suc, ◌+◌, ◌*◌, ◌%◌, ◌≤◌, None, ℤ, pos, negsuc, nat_abs, ◌+ℤ◌, ◌*ℤ◌, List, [], ◌∷◌, ◌++◌, map, length, refl, sym, ap, subst, ◌∙◌, arith, append-nil}
use Rattle.std.proofs.lemmas.Int.{ints}
use Rattle.std.proofs.lemmas.Grind.{flat_map-append}
use Rattle.std.proofs.lemmas.List.{length-map}
use Rattle.std.proofs.lemmas.List.Folds.{flat_map-map}
use Rattle.std.proofs.Math.Nat.{mul-le-mul_right, mul-mod_left}
use Rattle.std.specs.List.{flat_map}
use Rattle.dt_kinds.specs.declared.kind.Kind.{Kind}
use Rattle.dt_kinds.specs.declared.kind.Kind.TheVariants.{Byte}
use Rattle.dt_kinds.specs.Kind.{native_size}
use Rattle.dt_form.specs.declared.form.FormOf.{FormOf}
use Rattle.dt_form.specs.declared.form.FormOf.TheVariants.{Named, Vector, Hvector}
use Rattle.dt_map.specs.declared.entry.Entry.{Entry}
use Rattle.dt_map.specs.Bounds.{extent_of}
use Rattle.dt_map.specs.Constructors.{copies_at}
use Rattle.dt_map.specs.Elements.{elements}
use Rattle.dt_map.specs.Placing.{placed_marks}
use Rattle.dt_map.specs.Typemap.{Marked, shift, shift_entry}
use Rattle.dt_offsets.specs.Offsets.{below, row_offsets}
use Rattle.dt_type.specs.Constructors.{extents_offsets, vector_offsets, hvector_offsets}
use Rattle.dt_type.specs.Datatype.{Layer, typemap_of, entries_of}
use Rattle.dt_type.specs.declared.datatype.Seen.{Seen, out-roll-Seen}
use Rattle.dt_type.specs.Form.{map_by, result_of}
use Rattle.dt_accepted.proofs.Stands.{entry_at, Stands, stands_same, stands_one, stands_further, stands_each, count_each}
use Rattle.dt_accepted.proofs.Ranges.{unmarked, stands_extent}

-- groups of groups
pub flat_groups : {X Y A : Type 0} (f : Y → List A) (g : X → List Y) (xs : List X) → flat_map f (flat_map g xs) ≡ flat_map (λ x. flat_map f (g x)) xs
flat_groups f g [] = refl
flat_groups f g (x ∷ xs) =
    flat_map-append f (g x) (flat_map g xs) ∙ ap (λ ys. flat_map f (g x) ++ ys) (flat_groups f g xs)

same_groups : {X A : Type 0} (f g : X → List A) (xs : List X) → ((x : X) → f x ≡ g x) → flat_map f xs ≡ flat_map g xs
same_groups f g [] same = refl
same_groups f g (x ∷ xs) same = ap (λ ys. ys ++ flat_map f xs) (same x) ∙ ap (λ ys. g x ++ ys) (same_groups f g xs same)

-- what is copied without marks has none
placed_at : (xs : List ℤ) (es : List Entry) → (copies_at xs (unmarked es)).entries ≡ flat_map (λ x. shift x es) xs
placed_at xs es = flat_map-map (λ (member : ℤ × Marked). shift member.0 member.1.entries) (λ x. (x, unmarked es)) xs

no_marks : (xs : List ℤ) (es : List Entry) → placed_marks (map (λ x. (x, unmarked es)) xs) ≡ None
no_marks [] es = refl
no_marks (x ∷ xs) es = no_marks xs es

pub copies_unmarked : (xs : List ℤ) (es : List Entry) → copies_at xs (unmarked es) ≡ unmarked (flat_map (λ x. shift x es) xs)
copies_unmarked xs es =
    ap (λ marks. let m : Marked = record { entries = (copies_at xs (unmarked es)).entries; marks = marks } in m) (no_marks xs es) ∙ ap unmarked (placed_at xs es)

-- what a constructor gives
pub typemap_is : (form : FormOf Seen) → typemap_of (result_of form) ≡ map_by form
typemap_is form = ap (λ (l : Layer). let m : Marked = record { entries = l.entries; marks = l.marks } in m) (out-roll-Seen _)

-- a kind
abbrev pub basic_of : Kind → Seen
basic_of kind = result_of (Named kind)

abbrev pub one_of : Kind → List Entry
one_of kind = entry_at kind 0 ∷ []

pub kind_map : (kind : Kind) → typemap_of (basic_of kind) ≡ unmarked (one_of kind)
kind_map kind = typemap_is (Named kind)

one_extent : (kind : Kind) → extent_of (unmarked (one_of kind)) ≡ pos (native_size kind)
one_extent Byte = refl
one_extent _ = refl

pub kind_extent : (kind : Kind) → extent_of (typemap_of (basic_of kind)) ≡ pos (native_size kind)
kind_extent kind = ap extent_of (kind_map kind) ∙ one_extent kind

pub size_of_pos : (n : ℕ) → nat_abs (pos n) ≡ n
size_of_pos n = omega (arith, ints)

-- one block of a vector
abbrev block_group : Kind → ℕ → ℕ → ℕ → List Entry
block_group kind g i j = shift ((pos i *ℤ pos g +ℤ pos j) *ℤ pos (native_size kind)) (entry_at kind 0 ∷ [])

one_stands : (kind : Kind) (g i j : ℕ) → Stands kind ((i * g + j) * native_size kind) (block_group kind g i j) ((i * g + j) * native_size kind + native_size kind)
one_stands kind g i j =
    let z = native_size kind in
    stands_same kind (0 + (i * g + j) * z) ((i * g + j) * z) (0 + z + (i * g + j) * z) ((i * g + j) * z + z) (block_group kind g i j) (omega arith) (omega arith)
    (stands_further kind 0 (0 + z) ((i * g + j) * z) (entry_at kind 0 ∷ []) (stands_one kind 0))

abbrev block_entries : Kind → ℕ → ℕ → ℕ → List Entry
block_entries kind b g i = flat_map (block_group kind g i) (below b)

block_stands : (kind : Kind) (b g i : ℕ) → Stands kind ((i * g + 0) * native_size kind) (block_entries kind (suc b) g i) ((i * g + b) * native_size kind + native_size kind)
block_stands kind b g i =
    let z = native_size kind in
    stands_each kind (block_group kind g i) (λ j. (i * g + j) * z) (λ j. (i * g + j) * z + z) (one_stands kind g i) (λ j. omega arith) b

-- all of them
abbrev vector_entries : Kind → ℕ → ℕ → ℕ → List Entry
vector_entries kind c b g = flat_map (block_entries kind b g) (below c)

next_block : (z b g i : ℕ) → suc b ≤ g → (i * g + b) * z + z ≤ (suc i * g + 0) * z
next_block z b g i le =
    let h : suc b * z ≤ g * z = mul-le-mul_right z le in
    omega (arith, h)

vector_stands : (kind : Kind) (c b g : ℕ) → suc b ≤ g → Stands kind 0 (vector_entries kind (suc c) (suc b) g) ((c * g + b) * native_size kind + native_size kind)
vector_stands kind c b g le =
    let z = native_size kind in
    let all = stands_each kind (block_entries kind (suc b) g) (λ i. (i * g + 0) * z) (λ i. (i * g + b) * z + z) (block_stands kind b g) (λ i. next_block z b g i le) c in
    stands_same kind ((0 * g + 0) * z) 0 ((c * g + b) * z + z) ((c * g + b) * z + z) (vector_entries kind (suc c) (suc b) g) (omega arith) refl all

vector_count : (kind : Kind) (c b g : ℕ) → length (vector_entries kind c b g) ≡ c * (b * 1)
vector_count kind c b g =
    count_each kind (block_entries kind b g) (λ i. 0) (λ i. 0) (b * 1)
    (λ i. count_each kind (block_group kind g i) (λ j. 0) (λ j. 0) 1 (λ j. refl) b) c

vector_map : (kind : Kind) (c b g : ℕ) → map_by (Vector (pos c) (pos b) (pos g) (basic_of kind)) ≡ unmarked (vector_entries kind c b g)
vector_map kind c b g =
    let z = pos (native_size kind) in
    let blocks : ℕ → List ℤ = λ i. extents_offsets (pos i *ℤ pos g) b z in
    let old = typemap_of (basic_of kind) in
    let ext = extent_of old in
    ap (λ n. copies_at (vector_offsets n (nat_abs (pos b)) (pos g) ext) old) (size_of_pos c)
    ∙ (ap (λ n. copies_at (vector_offsets c n (pos g) ext) old) (size_of_pos b)
    ∙ (ap (λ x. copies_at (vector_offsets c b (pos g) x) old) (kind_extent kind)
    ∙ (ap (copies_at (vector_offsets c b (pos g) z)) (kind_map kind)
    ∙ (copies_unmarked (vector_offsets c b (pos g) z) (one_of kind)
    ∙ ap unmarked (flat_groups (λ x. shift x (one_of kind)) blocks (below c)
    ∙ same_groups (λ i. flat_map (λ x. shift x (one_of kind)) (blocks i)) (block_entries kind b g) (below c)
    (λ i. flat_map-map (λ x. shift x (one_of kind)) (λ j. (pos i *ℤ pos g +ℤ pos j) *ℤ z) (below b)))))))

-- a vector of a kind, as a datatype
abbrev pub vector_of : Kind → ℕ → ℕ → ℕ → Seen
vector_of kind c b g = result_of (Vector (pos c) (pos b) (pos g) (basic_of kind))

vector_typemap : (kind : Kind) (c b g : ℕ) → typemap_of (vector_of kind c b g) ≡ unmarked (vector_entries kind c b g)
vector_typemap kind c b g = typemap_is (Vector (pos c) (pos b) (pos g) (basic_of kind)) ∙ vector_map kind c b g

pub vector_stands_at : (kind : Kind) (c b g : ℕ) → suc b ≤ g → Stands kind 0 (entries_of (vector_of kind (suc c) (suc b) g)) ((c * g + b) * native_size kind + native_size kind)
vector_stands_at kind c b g le =
    subst (λ (m : Marked). Stands kind 0 m.entries ((c * g + b) * native_size kind + native_size kind)) (sym (vector_typemap kind (suc c) (suc b) g)) (vector_stands kind c b g le)

pub vector_unmarked : (kind : Kind) (c b g : ℕ) → typemap_of (vector_of kind c b g) ≡ unmarked (entries_of (vector_of kind c b g))
vector_unmarked kind c b g =
    vector_typemap kind c b g ∙ ap unmarked (sym (ap (λ (m : Marked). m.entries) (vector_typemap kind c b g)))

pub vector_length : (kind : Kind) (c b g : ℕ) → length (entries_of (vector_of kind c b g)) ≡ c * b
vector_length kind c b g =
    let same = ap (λ (m : Marked). length m.entries) (vector_typemap kind c b g) in
    let count = vector_count kind c b g in
    let one : c * (b * 1) ≡ c * b = omega arith in
    same ∙ (count ∙ one)

pub vector_extent : (kind : Kind) (c b g : ℕ) → suc b ≤ g → extent_of (typemap_of (vector_of kind (suc c) (suc b) g)) ≡ pos ((c * g + b) * native_size kind + native_size kind)
vector_extent kind c b g le =
    let z = native_size kind in
    let es = entries_of (vector_of kind (suc c) (suc b) g) in
    let whole : (c * g + b) * z + z ≡ suc (c * g + b) * z = omega arith in
    ap extent_of (vector_unmarked kind (suc c) (suc b) g)
    ∙ stands_extent kind ((c * g + b) * z + z) es (vector_stands_at kind c b g le) (ap (λ n. n % z) whole ∙ mul-mod_left (suc (c * g + b)) z)

-- one row, and rows
abbrev row_group : List Entry → ℕ → ℤ → ℕ → List Entry
row_group es step ext i = flat_map (λ x. shift x es) (row_offsets (pos i *ℤ pos step) 1 ext)

rows_placed : (es : List Entry) (m step : ℕ) (ext : ℤ)
    → copies_at (hvector_offsets m 1 (pos step) ext) (unmarked es) ≡ unmarked (flat_map (row_group es step ext) (below m))
rows_placed es m step ext =
    copies_unmarked (hvector_offsets m 1 (pos step) ext) es
    ∙ ap unmarked (flat_groups (λ x. shift x es) (λ i. row_offsets (pos i *ℤ pos step) 1 ext) (below m))

row_stands : (kind : Kind) (es : List Entry) (len step i : ℕ) → Stands kind 0 es len → Stands kind (i * step) (row_group es step (pos len) i) (len + i * step)
row_stands kind es len step i h =
    let x = i * step + 0 * len in
    let moved = stands_further kind 0 len x es h in
    stands_same kind (0 + x) (i * step) (len + x) (len + i * step) (row_group es step (pos len) i) (omega arith) (omega arith)
    (subst (λ fs. Stands kind (0 + x) fs (len + x)) (sym (append-nil (shift (pos x) es))) moved)

rows_stand : (kind : Kind) (es : List Entry) (len step m : ℕ) → Stands kind 0 es len → len ≤ step
    → Stands kind 0 (flat_map (row_group es step (pos len)) (below (suc m))) (len + m * step)
rows_stand kind es len step m h le =
    let all = stands_each kind (row_group es step (pos len)) (λ i. i * step) (λ i. len + i * step) (λ i. row_stands kind es len step i h) (λ i. omega arith) m in
    stands_same kind (0 * step) 0 (len + m * step) (len + m * step) (flat_map (row_group es step (pos len)) (below (suc m))) (omega arith) refl all

row_count : (es : List Entry) (step i : ℕ) (ext : ℤ) → length (row_group es step ext i) ≡ length es
row_count es step i ext =
    let x = (pos i *ℤ pos step) +ℤ (pos 0 *ℤ ext) in
    ap length (append-nil (shift x es)) ∙ length-map es (shift_entry x)

-- rows of a type that stands from byte 0 to its extent
module _ (kind : Kind) (old : Seen) (len step : ℕ) (stands : Stands kind 0 (entries_of old) len) (bare : typemap_of old ≡ unmarked (entries_of old))
    (extent : extent_of (typemap_of old) ≡ pos len) where
  rows_map : (m : ℕ) → map_by (Hvector (pos m) (pos 1) (pos step) old) ≡ unmarked (flat_map (row_group (entries_of old) step (pos len)) (below m))
  rows_map m =
      ap (λ n. copies_at (hvector_offsets n (nat_abs (pos 1)) (pos step) (extent_of (typemap_of old))) (typemap_of old)) (size_of_pos m)
      ∙ (ap (λ n. copies_at (hvector_offsets m n (pos step) (extent_of (typemap_of old))) (typemap_of old)) (size_of_pos 1)
      ∙ (ap (λ x. copies_at (hvector_offsets m 1 (pos step) x) (typemap_of old)) extent
      ∙ (ap (copies_at (hvector_offsets m 1 (pos step) (pos len))) bare ∙ rows_placed (entries_of old) m step (pos len))))

  pub rows_unmarked : (m : ℕ) → map_by (Hvector (pos m) (pos 1) (pos step) old) ≡ unmarked (map_by (Hvector (pos m) (pos 1) (pos step) old)).entries
  rows_unmarked m = rows_map m ∙ ap unmarked (sym (ap (λ (m : Marked). m.entries) (rows_map m)))

  pub rows_stand_at : (m : ℕ) → len ≤ step → Stands kind 0 (map_by (Hvector (pos (suc m)) (pos 1) (pos step) old)).entries (len + m * step)
  rows_stand_at m le =
      subst (λ (x : Marked). Stands kind 0 x.entries (len + m * step)) (sym (rows_map (suc m))) (rows_stand kind (entries_of old) len step m stands le)

  pub rows_length : (m : ℕ) → length (map_by (Hvector (pos m) (pos 1) (pos step) old)).entries ≡ m * length (entries_of old)
  rows_length m =
      ap (λ (x : Marked). length x.entries) (rows_map m)
      ∙ count_each kind (row_group (entries_of old) step (pos len)) (λ i. 0) (λ i. 0) (length (entries_of old))
      (λ i. row_count (entries_of old) step i (pos len)) m

-- the elements of one copy at byte 0
no_extents : (ext : ℤ) → pos 0 +ℤ (pos 0 *ℤ ext) ≡ pos 0
no_extents (pos n) = omega (arith, ints)
no_extents (negsuc n) = omega (arith, ints)

pub one_copy : (m : Marked) → elements m 1 (pos 0) ≡ shift (pos 0) m.entries
one_copy m = append-nil (shift (pos 0 +ℤ (pos 0 *ℤ extent_of m)) m.entries) ∙ ap (λ x. shift x m.entries) (no_extents (extent_of m))

pub copy_stands : (kind : Kind) (m : Marked) (b : ℕ) → Stands kind 0 m.entries b → Stands kind 0 (elements m 1 (pos 0)) b
copy_stands kind m b h =
    subst (λ es. Stands kind 0 es b) (sym (one_copy m))
    (stands_same kind (0 + 0) 0 (b + 0) b (shift (pos 0) m.entries) (omega arith) (omega arith) (stands_further kind 0 b 0 m.entries h))

pub copy_length : (m : Marked) → length (elements m 1 (pos 0)) ≡ length m.entries
copy_length m = ap length (one_copy m) ∙ length-map m.entries (shift_entry (pos 0))
