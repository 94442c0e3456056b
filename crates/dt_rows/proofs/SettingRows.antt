-- Rows of adjacent elements that are set in a buffer.
use Rattle.std.proofs.Common.{◌≡◌, ℕ, zero, suc, ◌+◌, ◌*◌, ◌≤◌, ◌<◌, ℤ, pos, ◌+ℤ◌, ◌*ℤ◌, List, [], ◌∷◌, ◌++◌, map, take, drop, length, reverse, replicate, ◌-◌, refl, sym, ap, subst, ◌∙◌, arith, append_assoc, append-nil, length-append, length-drop}
use Rattle.std.specs.Prelude.{nat_abs}
use Rattle.std.specs.List.{flat_map}
use Rattle.std.proofs.lemmas.Grind.{flat_map-append}
use Rattle.std.proofs.lemmas.Int.{ints}
use Rattle.std.proofs.lemmas.List.Sums.{sum_by-cons}
use Rattle.std.proofs.lemmas.List.{drop-drop, length-take-le, map-append, take-append-drop, take_all, take_at, drop_at}
use Rattle.dt_kinds.specs.declared.kind.Kind.{Kind}
use Rattle.dt_kinds.specs.declared.kind.Rep.{Rep}
use Rattle.dt_kinds.specs.declared.kind.Rep.TheVariants.{Native, External32}
use Rattle.dt_kinds.specs.Image.{filler, restore}
use Rattle.dt_kinds.specs.Kind.{native_size, external_size, packed_size}
use Rattle.dt_map.specs.declared.entry.Entry.{Entry}
use Rattle.dt_map.specs.Packed.{total}
use Rattle.dt_map.specs.Setting.{written, set_one, set_each}
use Rattle.dt_map.specs.Typemap.{shift, shift_entry}
use Rattle.dt_map.proofs.Copies.{total-append}
use Rattle.dt_offsets.specs.Offsets.{below, row_offsets}
use Rattle.dt_offsets.proofs.Reaches.{count-row}
use Rattle.dt_rows.specs.declared.rows.Rows.{Rows}
use Rattle.dt_rows.specs.Pieces.{IsPiece}
use Rattle.dt_rows.specs.Rows.{element_at, adjacent, elements_of_rows}
use Rattle.dt_rows.specs.Storing.{each_put, stored, set_rows}
use Rattle.dt_rows.proofs.Joined.{take_further}
use Rattle.dt_rows.proofs.Totals.{total_of_adjacent}
use Rattle.dt_rows.proofs.Stored.{put_more, put_same, put_everywhere, stored_same}

total-cons : (rep : Rep) (e : Entry) (es : List Entry) → total rep (e ∷ es) ≡ packed_size rep e.kind + total rep es
total-cons rep e es = sum_by-cons (λ (f : Entry). packed_size rep f.kind) e es

-- elements that are set one after another
pub set_append : (rep : Rep) (es fs : List Entry) (buffer images : List ℕ) → set_each rep (es ++ fs) buffer images ≡ set_each rep fs (set_each rep es buffer images) (drop (total rep es) images)
set_append rep [] fs buffer images = refl
set_append rep (e ∷ es) fs buffer images =
    set_append rep es fs (set_one rep e buffer (take (packed_size rep e.kind) images)) (drop (packed_size rep e.kind) images)
    ∙ ap (set_each rep fs (set_each rep (e ∷ es) buffer images)) (drop-drop (total rep es) (packed_size rep e.kind) images ∙ ap (λ n. drop n images) (sym (total-cons rep e es)))

-- elements of one kind at places
pub set_is_stored : (rep : Rep) (kind : Kind) (places : List ℤ) (buffer images : List ℕ) → set_each rep (map (element_at kind) places) buffer images ≡ stored (restore rep kind) (packed_size rep kind) places buffer images
set_is_stored rep kind [] buffer images = refl
set_is_stored rep kind (x ∷ places) buffer images =
    set_is_stored rep kind places (set_one rep (element_at kind x) buffer (take (packed_size rep kind) images)) (drop (packed_size rep kind) images)

length-written : (buffer : List ℕ) (at : ℕ) (bytes : List ℕ) → at + length bytes ≤ length buffer → length (written buffer at bytes) ≡ length buffer
length-written buffer at bytes fits =
    omega (arith, length-append (take at buffer) (bytes ++ drop (at + length bytes) buffer), length-append bytes (drop (at + length bytes) buffer), length-take-le at buffer (omega arith), length-drop (at + length bytes) buffer)

-- bytes that are written behind others
written_further : (buffer : List ℕ) (at n : ℕ) (p q : List ℕ) → length p ≡ n → at + (length p + length q) ≤ length buffer → written (written buffer at p) (at + n) q ≡ written buffer at (p ++ q)
written_further buffer at n p q long room =
    let front = take at buffer in
    let back = drop (at + length p) buffer in
    let size : length front ≡ at = length-take-le at buffer (omega (arith, room)) in
    let whole : length (front ++ p) ≡ at + n = omega (arith, length-append front p, size, long) in
    let joined : written buffer at p ≡ (front ++ p) ++ back = sym (append_assoc front p back) in
    let before : take (at + n) (written buffer at p) ≡ front ++ p = ap (take (at + n)) joined ∙ take_at (front ++ p) back (at + n) whole in
    let after : drop ((at + n) + length q) (written buffer at p) ≡ drop (at + length (p ++ q)) buffer =
    ap (λ k. drop k (written buffer at p)) (let turn : (at + n) + length q ≡ length q + (at + n) = omega arith in turn)
    ∙ sym (drop-drop (length q) (at + n) (written buffer at p) ∙ ap (λ k. drop k (written buffer at p)) (let turn : (at + n) + length q ≡ length q + (at + n) = omega arith in turn))
    ∙ ap (drop (length q)) (ap (drop (at + n)) joined ∙ drop_at (front ++ p) back (at + n) whole)
    ∙ drop-drop (length q) (at + length p) buffer ∙ ap (λ k. drop k buffer) (let sum : (at + length p) + length q ≡ at + length (p ++ q) = omega (arith, length-append p q) in sum) in
    ap (λ s. s ++ (q ++ drop ((at + n) + length q) (written buffer at p))) before
    ∙ ap (λ s. (front ++ p) ++ (q ++ s)) after
    ∙ append_assoc front p (q ++ drop (at + length (p ++ q)) buffer)
    ∙ ap (λ s. front ++ s) (sym (append_assoc p q (drop (at + length (p ++ q)) buffer)))

-- the first bytes of a list, in two pieces
pub drop_none : {A : Type 0} (xs : List A) → drop 0 xs ≡ xs
drop_none [] = refl
drop_none (x ∷ xs) = refl

pub rest_of : (xs : List ℕ) (n : ℕ) → take (length xs - n) (drop n xs) ≡ drop n xs
rest_of xs n = take_all (length xs - n) (drop n xs) (omega (arith, length-drop n xs))

pub two_pieces : {A : Type 0} (xs : List A) (n s : ℕ) → take n xs ++ take s (drop n xs) ≡ take (n + s) xs
two_pieces xs n s =
    let here : 0 + n ≡ n = omega arith in
    ap (λ k. take n xs ++ take s (drop k xs)) (sym here) ∙ ap (λ ys. take n ys ++ take s (drop (0 + n) xs)) (sym (drop_none xs))
    ∙ take_further xs 0 n s ∙ ap (take (n + s)) (drop_none xs)

-- adjacent elements that are native are written at once
pub adjacent_is_written : (kind : Kind) (n : ℕ) (x : ℤ) (buffer images : List ℕ) → IsPiece (length buffer) (n * native_size kind) x → n * native_size kind ≤ length images
    → set_each Native (adjacent kind n x) buffer images ≡ written buffer (nat_abs x) (take (n * native_size kind) images)
adjacent_is_written kind n x buffer images piece enough = set_is_stored Native kind (row_offsets x n (pos (native_size kind))) buffer images ∙ up_to n piece.within enough
  where
    s : ℕ
    s = native_size kind

    up_to : (m : ℕ) → nat_abs x + m * s ≤ length buffer → m * s ≤ length images → stored (restore Native kind) s (row_offsets x m (pos s)) buffer images ≡ written buffer (nat_abs x) (take (m * s) images)
    up_to zero room enough =
        let none : 0 * s ≡ 0 = omega arith in
        let here : nat_abs x + 0 ≡ nat_abs x = omega arith in
        sym (ap (λ k. written buffer (nat_abs x) (take k images)) none ∙ ap (λ k. take (nat_abs x) buffer ++ drop k buffer) here ∙ take-append-drop (nat_abs x) buffer)
    up_to (suc m) room enough =
        let next : m + 1 ≡ suc m = omega arith in
        let more : suc m * s ≡ m * s + s = omega arith in
        let first : length (take (m * s) images) ≡ m * s = length-take-le (m * s) images (omega (arith, more, enough)) in
        let second : length (take s (drop (m * s) images)) ≡ s = length-take-le s (drop (m * s) images) (omega (arith, more, enough, length-drop (m * s) images)) in
        let from = piece.from in
        let at : nat_abs (x +ℤ (pos m *ℤ pos s)) ≡ nat_abs x + m * s = omega (arith, ints, from) in
        ap (λ k. stored (restore Native kind) s (row_offsets x k (pos s)) buffer images) (sym next)
        ∙ put_more (λ y b bytes. written b (nat_abs y) (take s bytes)) s x (pos s) m buffer images
        ∙ ap (λ b. written b (nat_abs (x +ℤ (pos m *ℤ pos s))) (take s (drop (m * s) images))) (up_to m (omega (arith, more, room)) (omega (arith, more, enough)))
        ∙ ap (λ k. written (written buffer (nat_abs x) (take (m * s) images)) k (take s (drop (m * s) images))) at
        ∙ written_further buffer (nat_abs x) (m * s) (take (m * s) images) (take s (drop (m * s) images)) first (omega (arith, first, second, more, room))
        ∙ ap (written buffer (nat_abs x)) (two_pieces images (m * s) s ∙ ap (λ k. take k images) (sym more))

-- adjacent elements from an origin on
shifted : (kind : Kind) (origin : ℤ) (f g : ℕ → ℤ) → ((j : ℕ) → f j +ℤ origin ≡ g j) → (js : List ℕ) → shift origin (map (element_at kind) (map f js)) ≡ map (element_at kind) (map g js)
shifted kind origin f g same [] = refl
shifted kind origin f g same (j ∷ js) = ap (λ y. element_at kind y ∷ shift origin (map (element_at kind) (map f js))) (same j) ∙ ap (λ es. element_at kind (g j) ∷ es) (shifted kind origin f g same js)

shift_adjacent : (kind : Kind) (n : ℕ) (x y origin : ℤ) → x +ℤ origin ≡ y → shift origin (adjacent kind n x) ≡ adjacent kind n y
shift_adjacent kind n x y origin is =
    shifted kind origin (λ j. x +ℤ (pos j *ℤ pos (native_size kind))) (λ j. y +ℤ (pos j *ℤ pos (native_size kind))) (λ j. omega (arith, ints, is)) (below n)

-- rows are set one after another
pub rows_are_set : (rep : Rep) (r : Rows) (origin start : ℤ) (buffer images : List ℕ) → start ≡ r.run.disp +ℤ origin
    → set_each rep (shift origin (elements_of_rows r)) buffer images ≡ set_rows rep r.run.kind r.run.elements (row_offsets start r.rows r.step) buffer images
rows_are_set rep r origin start buffer images is = up_to r.rows
  where
    kind : Kind
    kind = r.run.kind

    n : ℕ
    n = r.run.elements

    front : ℕ → List Entry
    front m = shift origin (flat_map (adjacent kind n) (row_offsets r.run.disp m r.step))

    at : (i : ℕ) → (r.run.disp +ℤ (pos i *ℤ r.step)) +ℤ origin ≡ start +ℤ (pos i *ℤ r.step)
    at i = omega (arith, ints, is)

    front_more : (m : ℕ) → front (suc m) ≡ front m ++ adjacent kind n (start +ℤ (pos m *ℤ r.step))
    front_more m =
        let x = r.run.disp +ℤ (pos m *ℤ r.step) in
        ap (λ xs. shift origin (flat_map (adjacent kind n) xs)) (map-append (λ j. r.run.disp +ℤ (pos j *ℤ r.step)) (below m) (m ∷ []))
        ∙ ap (shift origin) (flat_map-append (adjacent kind n) (row_offsets r.run.disp m r.step) (x ∷ []) ∙ ap (λ es. flat_map (adjacent kind n) (row_offsets r.run.disp m r.step) ++ es) (append-nil (adjacent kind n x)))
        ∙ map-append (shift_entry origin) (flat_map (adjacent kind n) (row_offsets r.run.disp m r.step)) (adjacent kind n x)
        ∙ ap (λ es. front m ++ es) (shift_adjacent kind n x (start +ℤ (pos m *ℤ r.step)) origin (at m))

    front_total : (m : ℕ) → total rep (front m) ≡ m * (n * packed_size rep kind)
    front_total zero = let none : 0 * (n * packed_size rep kind) ≡ 0 = omega arith in sym none
    front_total (suc m) =
        let more : m * (n * packed_size rep kind) + n * packed_size rep kind ≡ suc m * (n * packed_size rep kind) = omega arith in
        let x = start +ℤ (pos m *ℤ r.step) in
        ap (total rep) (front_more m) ∙ total-append rep (front m) (adjacent kind n x) ∙ ap (λ k. k + total rep (adjacent kind n x)) (front_total m)
        ∙ ap (λ k. m * (n * packed_size rep kind) + k) (total_of_adjacent rep kind n x) ∙ more

    up_to : (m : ℕ) → set_each rep (front m) buffer images ≡ set_rows rep kind n (row_offsets start m r.step) buffer images
    up_to zero = refl
    up_to (suc m) =
        let next : m + 1 ≡ suc m = omega arith in
        let x = start +ℤ (pos m *ℤ r.step) in
        ap (λ es. set_each rep es buffer images) (front_more m)
        ∙ set_append rep (front m) (adjacent kind n x) buffer images
        ∙ ap (λ k. set_each rep (adjacent kind n x) (set_each rep (front m) buffer images) (drop k images)) (front_total m)
        ∙ ap (λ b. set_each rep (adjacent kind n x) b (drop (m * (n * packed_size rep kind)) images)) (up_to m)
        ∙ sym (put_more (λ y b bytes. set_each rep (adjacent kind n y) b bytes) (n * packed_size rep kind) start r.step m buffer images)
        ∙ ap (λ k. set_rows rep kind n (row_offsets start k r.step) buffer images) next

-- elements that are as large in external32 as in memory stand there turned
turned_is_restored : (kind : Kind) → native_size kind ≤ external_size kind → (bytes : List ℕ) → length bytes ≡ external_size kind → reverse bytes ≡ restore External32 kind bytes
turned_is_restored kind wide bytes long =
    let none : native_size kind - length bytes ≡ 0 = omega (arith, wide, long) in
    sym (ap (λ n. reverse bytes ++ replicate n (filler kind bytes)) none ∙ append-nil (reverse bytes))

one_turned : (bytes : List ℕ) → length bytes ≡ 1 → bytes ≡ reverse bytes
one_turned [] long = cc
one_turned (b ∷ []) long = refl
one_turned (b ∷ c ∷ bytes) long = absurd (omega (arith, long))

module _ (kind : Kind) (start step : ℤ) (count size : ℕ) (buffer images : List ℕ) (sizes : (native_size kind ≡ size) × (external_size kind ≡ size)) (enough : count * external_size kind ≤ length images) where
  abbrev places : List ℤ
  places = row_offsets start count step

  all : length places * external_size kind ≤ length images
  all = subst (λ n. n * external_size kind ≤ length images) (sym (count-row start step count)) enough

  pub turned_elements : stored reverse size places buffer images ≡ stored (restore External32 kind) (external_size kind) places buffer images
  turned_elements =
      ap (λ w. stored reverse w places buffer images) (sym sizes.1)
      ∙ stored_same reverse (restore External32 kind) (external_size kind) (turned_is_restored kind (omega (arith, sizes))) places buffer images all

  pub single_bytes : size ≡ 1 → stored (λ bytes. bytes) size places buffer images ≡ stored (restore External32 kind) (external_size kind) places buffer images
  single_bytes is =
      ap (λ w. stored (λ bytes. bytes) w places buffer images) (sym sizes.1)
      ∙ stored_same (λ bytes. bytes) reverse (external_size kind) (λ bytes long. one_turned bytes (long ∙ sizes.1 ∙ is)) places buffer images all
      ∙ ap (λ w. stored reverse w places buffer images) sizes.1 ∙ turned_elements

-- rows of single elements
pub single_rows : (rep : Rep) (kind : Kind) (start step : ℤ) (count : ℕ) (buffer images : List ℕ)
    → stored (restore rep kind) (packed_size rep kind) (row_offsets start count step) buffer images ≡ set_rows rep kind 1 (row_offsets start count step) buffer images
single_rows rep kind start step count buffer images =
    let one : 1 * packed_size rep kind ≡ packed_size rep kind = omega arith in
    let put : ℤ → List ℕ → List ℕ → List ℕ = λ x b bytes. written b (nat_abs x) (restore rep kind (take (packed_size rep kind) bytes)) in
    let here : (x : ℤ) → x ≡ x +ℤ (pos 0 *ℤ pos (native_size kind)) = λ x. omega (arith, ints) in
    put_everywhere put (λ x b bytes. set_each rep (adjacent kind 1 x) b bytes) (packed_size rep kind) (λ x b bytes. ap (λ y. put y b bytes) (here x)) (row_offsets start count step) buffer images
    ∙ ap (λ w. each_put (λ x b bytes. set_each rep (adjacent kind 1 x) b bytes) w (row_offsets start count step) buffer images) (sym one)

-- rows that are native, each written at once
pub native_rows : (kind : Kind) (n : ℕ) (start step : ℤ) (count : ℕ) (buffer images : List ℕ)
    → ((i : ℕ) → i < count → IsPiece (length buffer) (n * native_size kind) (start +ℤ (pos i *ℤ step))) → count * (n * native_size kind) ≤ length images
    → stored (λ bytes. bytes) (n * native_size kind) (row_offsets start count step) buffer images ≡ set_rows Native kind n (row_offsets start count step) buffer images
native_rows kind n start step count buffer images inside enough =
    let w = n * native_size kind in
    (put_same (λ x b bytes. written b (nat_abs x) (take w bytes)) (λ x b bytes. set_each Native (adjacent kind n x) b bytes) w (length buffer) start step images count
    (λ i b bytes lt long have. (
      (let piece = subst (λ len. IsPiece len w (start +ℤ (pos i *ℤ step))) (sym long) (inside i lt) in sym (adjacent_is_written kind n (start +ℤ (pos i *ℤ step)) b bytes piece have)),
      (let within = (inside i lt).within in length-written b (nat_abs (start +ℤ (pos i *ℤ step))) (take w bytes) (omega (arith, within, long, length-take-le w bytes have)) ∙ long),
    ))
    buffer refl enough).0
