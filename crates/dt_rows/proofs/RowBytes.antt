-- The packed bytes of rows, as pieces of the buffer.
use Rattle.std.proofs.Common.{◌≡◌, ℕ, ◌+◌, ◌*◌, ◌<◌, ℤ, pos, ◌+ℤ◌, ◌*ℤ◌, ◌≤ℤ◌, List, map, take, drop, reverse, sym, ap, ◌∙◌, arith}
use Rattle.std.specs.Prelude.{nat_abs}
use Rattle.std.specs.List.{flat_map}
use Rattle.std.proofs.lemmas.Int.{ints}
use Rattle.std.proofs.lemmas.List.{take-take}
use Rattle.std.proofs.lemmas.List.Folds.{flat_map-map}
use Rattle.dt_kinds.specs.declared.kind.Kind.{Kind}
use Rattle.dt_kinds.specs.declared.kind.Rep.{Rep}
use Rattle.dt_kinds.specs.declared.kind.Rep.TheVariants.{Native, External32}
use Rattle.dt_kinds.specs.Image.{image}
use Rattle.dt_kinds.specs.Kind.{native_size, external_size}
use Rattle.dt_kinds.proofs.Table.{external_is_no_larger}
use Rattle.dt_map.specs.declared.entry.Entry.{Entry}
use Rattle.dt_map.specs.Packed.{packed, bytes_at}
use Rattle.dt_map.specs.Typemap.{shift, shift_entry}
use Rattle.dt_offsets.specs.Offsets.{below, row_offsets}
use Rattle.dt_offsets.proofs.Lookups.{flat_map-flat_map}
use Rattle.dt_rows.specs.declared.rows.Rows.{Rows}
use Rattle.dt_rows.specs.Pieces.{pieces, bytes_from, turned_row}
use Rattle.dt_rows.specs.Rows.{element_at, adjacent, elements_of_rows}
use Rattle.dt_rows.proofs.Joined.{joined_same, take_joined}

-- pieces at even places, told by their numbers
pub pieces_by_number : (image : List ℕ → List ℕ) (w : ℕ) (buffer : List ℕ) (start : ℤ) (n : ℕ) (step : ℤ)
    → pieces image w buffer (row_offsets start n step) ≡ flat_map (λ j. image (bytes_from buffer w (start +ℤ (pos j *ℤ step)))) (below n)
pieces_by_number image w buffer start n step =
    flat_map-map (λ x. image (bytes_from buffer w x)) (λ j. start +ℤ (pos j *ℤ step)) (below n)

-- adjacent elements, told by their numbers
adjacent_by_number : (rep : Rep) (kind : Kind) (n : ℕ) (x origin : ℤ) (buffer : List ℕ)
    → packed rep (shift origin (adjacent kind n x)) buffer
    ≡ flat_map (λ j. image rep kind (bytes_from buffer (native_size kind) ((x +ℤ (pos j *ℤ pos (native_size kind))) +ℤ origin))) (below n)
adjacent_by_number rep kind n x origin buffer =
    let one : Entry → List ℕ = λ e. image rep e.kind (bytes_at buffer e) in
    let at : ℕ → ℤ = λ j. x +ℤ (pos j *ℤ pos (native_size kind)) in
    flat_map-map one (shift_entry origin) (map (element_at kind) (map at (below n)))
    ∙ flat_map-map (λ e. one (shift_entry origin e)) (element_at kind) (map at (below n))
    ∙ flat_map-map (λ y. one (shift_entry origin (element_at kind y))) at (below n)

adjacent_native : (kind : Kind) (n : ℕ) (x origin y : ℤ) (buffer : List ℕ) → x +ℤ origin ≡ y → pos 0 ≤ℤ y
    → packed Native (shift origin (adjacent kind n x)) buffer ≡ bytes_from buffer (n * native_size kind) y
adjacent_native kind n x origin y buffer is from =
    let s = native_size kind in
    let at : (j : ℕ) → nat_abs ((x +ℤ (pos j *ℤ pos s)) +ℤ origin) ≡ nat_abs y + j * s = λ j. omega (arith, ints, is, from) in
    adjacent_by_number Native kind n x origin buffer
    ∙ joined_same _ (λ j. take s (drop (nat_abs y + j * s) buffer)) n (λ j lt. ap (λ k. take s (drop k buffer)) (at j))
    ∙ take_joined buffer (nat_abs y) s n

adjacent_external : (kind : Kind) (n : ℕ) (x origin y : ℤ) (buffer : List ℕ) → x +ℤ origin ≡ y
    → packed External32 (shift origin (adjacent kind n x)) buffer ≡ pieces reverse (external_size kind) buffer (row_offsets y n (pos (native_size kind)))
adjacent_external kind n x origin y buffer is =
    let s = native_size kind in
    let e = external_size kind in
    let at : (j : ℕ) → (x +ℤ (pos j *ℤ pos s)) +ℤ origin ≡ y +ℤ (pos j *ℤ pos s) = λ j. omega (arith, ints, is) in
    adjacent_by_number External32 kind n x origin buffer
    ∙ joined_same _ (λ j. reverse (bytes_from buffer e (y +ℤ (pos j *ℤ pos s)))) n
    (λ j lt. ap reverse (take-take e s _ (external_is_no_larger kind)) ∙ ap (λ z. reverse (bytes_from buffer e z)) (at j))
    ∙ sym (pieces_by_number reverse e buffer y n (pos s))

-- rows, told by their numbers
rows_by_number : (rep : Rep) (r : Rows) (origin : ℤ) (buffer : List ℕ)
    → packed rep (shift origin (elements_of_rows r)) buffer
    ≡ flat_map (λ i. packed rep (shift origin (adjacent r.run.kind r.run.elements (r.run.disp +ℤ (pos i *ℤ r.step)))) buffer) (below r.rows)
rows_by_number rep r origin buffer =
    let one : Entry → List ℕ = λ e. image rep e.kind (bytes_at buffer e) in
    let row = adjacent r.run.kind r.run.elements in
    let at : ℕ → ℤ = λ i. r.run.disp +ℤ (pos i *ℤ r.step) in
    flat_map-map one (shift_entry origin) (flat_map row (map at (below r.rows)))
    ∙ flat_map-flat_map (λ e. one (shift_entry origin e)) row (map at (below r.rows))
    ∙ flat_map-map (λ x. flat_map (λ e. one (shift_entry origin e)) (row x)) at (below r.rows)
    ∙ joined_same _ _ r.rows (λ i lt. sym (flat_map-map one (shift_entry origin) (row (at i))))

pub rows_native : (r : Rows) (origin start : ℤ) (buffer : List ℕ) → start ≡ r.run.disp +ℤ origin → ((i : ℕ) → i < r.rows → pos 0 ≤ℤ (start +ℤ (pos i *ℤ r.step)))
    → packed Native (shift origin (elements_of_rows r)) buffer ≡ pieces (λ b. b) (r.run.elements * native_size r.run.kind) buffer (row_offsets start r.rows r.step)
rows_native r origin start buffer is from =
    let at : (i : ℕ) → (r.run.disp +ℤ (pos i *ℤ r.step)) +ℤ origin ≡ start +ℤ (pos i *ℤ r.step) = λ i. omega (arith, ints, is) in
    rows_by_number Native r origin buffer
    ∙ joined_same _ _ r.rows (λ i lt. adjacent_native r.run.kind r.run.elements _ origin _ buffer (at i) (from i lt))
    ∙ sym (pieces_by_number (λ b. b) (r.run.elements * native_size r.run.kind) buffer start r.rows r.step)

pub rows_external : (r : Rows) (origin start : ℤ) (buffer : List ℕ) → start ≡ r.run.disp +ℤ origin
    → packed External32 (shift origin (elements_of_rows r)) buffer ≡ flat_map (turned_row r.run.kind r.run.elements buffer) (row_offsets start r.rows r.step)
rows_external r origin start buffer is =
    let at : (i : ℕ) → (r.run.disp +ℤ (pos i *ℤ r.step)) +ℤ origin ≡ start +ℤ (pos i *ℤ r.step) = λ i. omega (arith, ints, is) in
    rows_by_number External32 r origin buffer
    ∙ joined_same _ _ r.rows (λ i lt. adjacent_external r.run.kind r.run.elements _ origin _ buffer (at i))
    ∙ sym (flat_map-map (turned_row r.run.kind r.run.elements buffer) (λ i. start +ℤ (pos i *ℤ r.step)) (below r.rows))
