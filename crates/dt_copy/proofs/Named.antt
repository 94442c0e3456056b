-- Bytes as elements: where they lie, and which of them rows name.
use Rattle.std.proofs.Common.{◌≡◌, ℕ, zero, suc, ◌+◌, ◌*◌, ◌≤◌, ◌<◌, true, ℤ, pos, ◌+ℤ◌, ◌*ℤ◌, List, [], ◌∷◌, ◌++◌, map, take, drop, length, inl, inr, refl, sym, ap, ◌∙◌, arith, append-nil}
use Rattle.std.specs.Prelude.{int_le}
use Rattle.std.specs.List.{flat_map, AllByRecursion}
use Rattle.std.proofs.lemmas.Bool.{and_from, and_parts, cases_lt}
use Rattle.std.proofs.lemmas.Grind.{flat_map-append}
use Rattle.std.proofs.lemmas.Int.{ints}
use Rattle.std.proofs.lemmas.List.{take_all, take-append-drop}
use Rattle.std.proofs.lemmas.List.Folds.{list_all-append}
use Rattle.std.proofs.lemmas.List.Sums.{sum_by-cons}
use Rattle.dt_kinds.specs.declared.kind.Kind.{Kind}
use Rattle.dt_kinds.specs.declared.kind.Kind.TheVariants.{Byte}
use Rattle.dt_kinds.specs.declared.kind.Rep.TheVariants.{Native}
use Rattle.dt_kinds.specs.Kind.{native_size, packed_size}
use Rattle.dt_map.specs.declared.entry.Entry.{Entry}
use Rattle.dt_map.specs.Elements.{are_inside, lies_inside}
use Rattle.dt_map.specs.Packed.{total}
use Rattle.dt_map.specs.Typemap.{shift}
use Rattle.dt_map.proofs.Placings.{shift-append}
use Rattle.dt_offsets.specs.Offsets.{below, row_offsets}
use Rattle.dt_rows.specs.declared.rows.Rows.{Rows}
use Rattle.dt_rows.specs.Rows.{element_at, adjacent, elements_of_rows, AreRows, bytes_in}
use Rattle.dt_rows.proofs.SettingRows.{drop_none}
use Rattle.dt_rows.proofs.Totals.{total_of_rows}
use Rattle.dt_copy.specs.Copied.{signature}
use Rattle.dt_copy.specs.Side.{bytes_of, bytes_at_rows}
use Rattle.dt_copy.proofs.Bytes.{adjacent_more, adjacent_parts, adjacent_cut, bytes_from}
use Rattle.dt_copy.proofs.Elements.{AreAlike, inside_parts}

-- elements that are bytes
abbrev pub AreAllBytes : List Entry → Type 0
AreAllBytes es = AllByRecursion (λ (e : Entry). e.kind ≡ Byte) es

all_append : (es fs : List Entry) → AreAllBytes es → AreAllBytes fs → AreAllBytes (es ++ fs)
all_append [] fs first last = last
all_append (e ∷ es) fs first last = (first.0, all_append es fs first.1 last)

pub all_take : (n : ℕ) (es : List Entry) → AreAllBytes es → AreAllBytes (take n es)
all_take zero es all = tt
all_take (suc n) [] all = tt
all_take (suc n) (e ∷ es) all = (all.0, all_take n es all.1)

pub all_drop : (n : ℕ) (es : List Entry) → AreAllBytes es → AreAllBytes (drop n es)
all_drop zero [] all = tt
all_drop zero (e ∷ es) all = all
all_drop (suc n) [] all = tt
all_drop (suc n) (e ∷ es) all = all_drop n es all.1

all_of_places : (xs : List ℤ) → AreAllBytes (map (element_at Byte) xs)
all_of_places [] = tt
all_of_places (x ∷ xs) = (refl, all_of_places xs)

all_joined : (n : ℕ) (xs : List ℤ) → AreAllBytes (flat_map (bytes_from n) xs)
all_joined n [] = tt
all_joined n (x ∷ xs) = all_append (bytes_from n x) (flat_map (bytes_from n) xs) (all_of_places (row_offsets x n (pos 1))) (all_joined n xs)

pub all_of_bytes : (es : List Entry) → AreAllBytes (bytes_of es)
all_of_bytes [] = tt
all_of_bytes (e ∷ es) =
    all_append (adjacent Byte (native_size e.kind) e.disp) (bytes_of es) (all_of_places (row_offsets e.disp (native_size e.kind) (pos 1))) (all_of_bytes es)

-- each of them is one byte
pub total_of_bytes : (es : List Entry) → AreAllBytes es → total Native es ≡ length es
total_of_bytes [] all = refl
total_of_bytes (e ∷ es) all =
    let rest = total_of_bytes es all.1 in
    let one : native_size e.kind ≡ 1 = ap native_size all.0 in
    omega (arith, rest, one, sum_by-cons (λ (f : Entry). packed_size Native f.kind) e es)

-- and bytes are alike
pub bytes_alike : (es fs : List Entry) → AreAllBytes es → AreAllBytes fs → length es ≤ length fs → AreAlike es fs
bytes_alike [] fs first last fewer = refl
bytes_alike (e ∷ es) [] first last fewer = absurd (omega (arith, fewer))
bytes_alike (e ∷ es) (f ∷ fs) first last fewer =
    ap (λ k. k ∷ signature es) (first.0 ∙ sym last.0) ∙ ap (λ s. f.kind ∷ s) (bytes_alike es fs first.1 last.1 (omega (arith, fewer)))

-- elements lie inside where all do
pub inside-append : (len : ℕ) (es fs : List Entry) → are_inside len (es ++ fs) ≡ true → (are_inside len es ≡ true) × (are_inside len fs ≡ true)
inside-append len es fs all = and_parts (are_inside len es) (are_inside len fs) (sym (list_all-append (lies_inside len) es fs) ∙ all)

pub inside_piece : (len n k : ℕ) (es : List Entry) → are_inside len es ≡ true → are_inside len (take n (drop k es)) ≡ true
inside_piece len n k es all =
    let rest = (inside-append len (take k es) (drop k es) (ap (are_inside len) (take-append-drop k es) ∙ all)).1 in
    (inside-append len (take n (drop k es)) (drop n (drop k es)) (ap (are_inside len) (take-append-drop n (drop k es)) ∙ rest)).0

inside_both : (len : ℕ) (es fs : List Entry) → are_inside len es ≡ true → are_inside len fs ≡ true → are_inside len (es ++ fs) ≡ true
inside_both len es fs first last = list_all-append (lies_inside len) es fs ∙ and_from (are_inside len es) (are_inside len fs) first last

-- the bytes of elements lie where the elements do
byte_inside : (len a : ℕ) (x : ℤ) → x ≡ pos a → a < len → lies_inside len (element_at Byte x) ≡ true
byte_inside len a x is less =
    let from : int_le (pos 0) x ≡ true = grind (arith, ints, is) in
    let to : int_le (x +ℤ pos 1) (pos len) ≡ true = grind (arith, ints, is, less) in
    and_from (int_le (pos 0) x) (int_le (x +ℤ pos 1) (pos len)) from to

row_inside : (len n a : ℕ) → a + n ≤ len → are_inside len (bytes_from n (pos a)) ≡ true
row_inside len zero a room = refl
row_inside len (suc n) a room =
    let x = pos a +ℤ (pos n *ℤ pos 1) in
    let place : x ≡ pos (a + n) = omega (arith, ints) in
    let last : are_inside len (element_at Byte x ∷ []) ≡ true = and_from (lies_inside len (element_at Byte x)) true (byte_inside len (a + n) x place (omega (arith, room))) refl in
    ap (are_inside len) (adjacent_more Byte n (pos a)) ∙ inside_both len (bytes_from n (pos a)) (element_at Byte x ∷ []) (row_inside len n a (omega (arith, room))) last

pub bytes_inside : (len : ℕ) (es : List Entry) → are_inside len es ≡ true → are_inside len (bytes_of es) ≡ true
bytes_inside len [] all = refl
bytes_inside len (e ∷ es) all =
    let parts = inside_parts len e es all in
    let ends = parts.0.ends in
    let first = ap (λ x. are_inside len (bytes_from (native_size e.kind) x)) parts.0.starts ∙ row_inside len (native_size e.kind) _ ends in
    inside_both len (bytes_from (native_size e.kind) e.disp) (bytes_of es) first (bytes_inside len es parts.1)

-- the bytes of a run
bytes_of_run : (kind : Kind) (n : ℕ) (x o : ℤ) → bytes_of (shift o (adjacent kind n x)) ≡ bytes_from (n * native_size kind) (x +ℤ o)
bytes_of_run kind zero x o = (let none : 0 * native_size kind ≡ 0 = omega arith in ap (λ n. bytes_from n (x +ℤ o)) (sym none))
bytes_of_run kind (suc n) x o =
    let s = native_size kind in
    let more : n * s + s ≡ suc n * s = omega arith in
    let y = x +ℤ (pos n *ℤ pos s) in
    let place : y +ℤ o ≡ (x +ℤ o) +ℤ pos (n * s) = omega (arith, ints) in
    ap (λ es. bytes_of (shift o es)) (adjacent_more kind n x)
    ∙ ap bytes_of (shift-append o (adjacent kind n x) (element_at kind y ∷ []))
    ∙ flat_map-append (λ e. adjacent Byte (native_size e.kind) e.disp) (shift o (adjacent kind n x)) (shift o (element_at kind y ∷ []))
    ∙ ap (λ es. es ++ (bytes_from s (y +ℤ o) ++ [])) (bytes_of_run kind n x o)
    ∙ ap (λ es. bytes_from (n * s) (x +ℤ o) ++ es) (append-nil (bytes_from s (y +ℤ o)) ∙ ap (bytes_from s) place)
    ∙ sym (adjacent_parts (n * s) s (x +ℤ o)) ∙ ap (λ k. bytes_from k (x +ℤ o)) more

-- and of rows
bytes_of_rows : (kind : Kind) (n : ℕ) (o : ℤ) (xs : List ℤ) → bytes_of (shift o (flat_map (adjacent kind n) xs)) ≡ flat_map (λ x. bytes_from (n * native_size kind) (x +ℤ o)) xs
bytes_of_rows kind n o [] = refl
bytes_of_rows kind n o (x ∷ xs) =
    let rest = flat_map (adjacent kind n) xs in
    ap bytes_of (shift-append o (adjacent kind n x) rest)
    ∙ flat_map-append (λ e. adjacent Byte (native_size e.kind) e.disp) (shift o (adjacent kind n x)) (shift o rest)
    ∙ ap (λ es. es ++ bytes_of (shift o rest)) (bytes_of_run kind n x o)
    ∙ ap (λ es. bytes_from (n * native_size kind) (x +ℤ o) ++ es) (bytes_of_rows kind n o xs)

at_places : (n m : ℕ) (x y o step : ℤ) (js : List ℕ) → n ≡ m → y ≡ x +ℤ o
    → flat_map (λ z. bytes_from n (z +ℤ o)) (map (λ j. x +ℤ (pos j *ℤ step)) js) ≡ flat_map (bytes_from m) (map (λ j. y +ℤ (pos j *ℤ step)) js)
at_places n m x y o step [] same is = refl
at_places n m x y o step (j ∷ js) same is =
    let place : (x +ℤ (pos j *ℤ step)) +ℤ o ≡ y +ℤ (pos j *ℤ step) = omega (arith, ints, is) in
    let rest = flat_map (λ z. bytes_from n (z +ℤ o)) (map (λ j. x +ℤ (pos j *ℤ step)) js) in
    ap (λ k. bytes_from k ((x +ℤ (pos j *ℤ step)) +ℤ o) ++ rest) same
    ∙ ap (λ z. bytes_from m z ++ rest) place
    ∙ ap (λ s. bytes_from m (y +ℤ (pos j *ℤ step)) ++ s) (at_places n m x y o step js same is)

-- one row of places
one_place : (f : ℤ → List Entry) (x step : ℤ) (n : ℕ) → n ≡ 1 → flat_map f (row_offsets x n step) ≡ f x
one_place f x step n one =
    let here : x +ℤ (pos 0 *ℤ step) ≡ x = omega (arith, ints) in
    ap (λ k. flat_map f (row_offsets x k step)) one ∙ append-nil (f (x +ℤ (pos 0 *ℤ step))) ∙ ap f here

-- the bytes that rows name are those of rows of bytes
module _ (r : Rows) (shape : AreRows Native r) (o : ℤ) where
  abbrev width : ℕ
  width = r.run.elements * native_size r.run.kind

  abbrev first : ℤ
  first = (r.run.disp +ℤ o) +ℤ pos r.run.skip

  bytes_are : bytes_of (shift o (elements_of_rows r)) ≡ flat_map (λ x. bytes_from width (x +ℤ o)) (row_offsets r.run.disp r.rows r.step)
  bytes_are = bytes_of_rows r.run.kind r.run.elements o (row_offsets r.run.disp r.rows r.step)

  in_many : 1 < r.rows → take (bytes_in r) (drop r.run.skip (bytes_of (shift o (elements_of_rows r)))) ≡ elements_of_rows (bytes_at_rows o r)
  in_many many =
      let whole = shape.whole many in
      let begins : first ≡ r.run.disp +ℤ o = (let none = whole.0 in omega (arith, ints, none)) in
      let named = elements_of_rows (bytes_at_rows o r) in
      let long : length named ≡ bytes_in r =
      (let count = sym (total_of_bytes named (all_joined r.run.bytes (row_offsets first r.rows r.step))) ∙ total_of_rows Native (bytes_at_rows o r) in
      let each : r.rows * (r.run.bytes * 1) ≡ r.rows * r.run.bytes = ap (λ n. r.rows * n) (let one : r.run.bytes * 1 ≡ r.run.bytes = omega arith in one) in
      count ∙ each) in
      ap (λ es. take (bytes_in r) (drop r.run.skip es)) (bytes_are ∙ at_places width r.run.bytes r.run.disp first o r.step (below r.rows) (sym whole.1) begins)
      ∙ ap (λ k. take (bytes_in r) (drop k named)) whole.0
      ∙ ap (take (bytes_in r)) (drop_none named)
      ∙ take_all (bytes_in r) named (omega (arith, long))

  in_one : r.rows ≡ 1 → take (bytes_in r) (drop r.run.skip (bytes_of (shift o (elements_of_rows r)))) ≡ elements_of_rows (bytes_at_rows o r)
  in_one one =
      let within = shape.run.within in
      let bytes : bytes_in r ≡ r.run.bytes = ap (λ n. n * r.run.bytes) one ∙ (let same : 1 * r.run.bytes ≡ r.run.bytes = omega arith in same) in
      ap (λ es. take (bytes_in r) (drop r.run.skip es)) (bytes_are ∙ one_place (λ x. bytes_from width (x +ℤ o)) r.run.disp r.step r.rows one)
      ∙ ap (λ n. take n (drop r.run.skip (bytes_from width (r.run.disp +ℤ o)))) bytes
      ∙ adjacent_cut width r.run.skip r.run.bytes (r.run.disp +ℤ o) within
      ∙ sym (one_place (bytes_from r.run.bytes) first r.step r.rows one)

  pub named_bytes_are : take (bytes_in r) (drop r.run.skip (bytes_of (shift o (elements_of_rows r)))) ≡ elements_of_rows (bytes_at_rows o r)
  named_bytes_are =
      elim (cases_lt 1 r.rows) [
        | inl many ↦ in_many many
        | inr few ↦ (let some = shape.some in in_one (omega (arith, some, few)))
      ]
