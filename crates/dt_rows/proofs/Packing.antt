-- The packed bytes that rows name are those that the loops put.
use Rattle.std.proofs.Common.{◌≡◌, ℕ, ◌+◌, ◌-◌, ◌*◌, ◌≤◌, ◌<◌, ◌^◌, true, SFits, ℤ, pos, ◌+ℤ◌, ◌*ℤ◌, List, [], ◌++◌, take, drop, length, inl, inr, sym, ap, ◌∙◌, arith, append-nil, length-drop}
use Rattle.std.specs.Prelude.{nat_abs}
use Rattle.std.specs.List.{flat_map}
use Rattle.std.proofs.lemmas.Bool.{cases_lt}
use Rattle.std.proofs.lemmas.Int.{ints, fits_signed_from_abs}
use Rattle.std.specs.Int.{w64}
use Rattle.std.proofs.lemmas.List.{take_all, take-take, drop-take, drop-drop, length-take-le}
use Rattle.std.proofs.lemmas.List.Folds.{flat_map-map}
use Rattle.dt_kinds.specs.declared.kind.Rep.{Rep}
use Rattle.dt_kinds.specs.declared.kind.Rep.TheVariants.{Native, External32}
use Rattle.dt_kinds.specs.Kind.{native_size, external_size, packed_size}
use Rattle.dt_map.specs.Elements.{are_inside}
use Rattle.dt_map.specs.Typemap.{shift}
use Rattle.dt_offsets.specs.Offsets.{below, row_offsets}
use Rattle.dt_rows.specs.declared.rows.Rows.{Rows}
use Rattle.dt_rows.specs.declared.rows.Run.{Run}
use Rattle.dt_rows.specs.Pieces.{bytes_from, pieces, turned_row, IsPiece}
use Rattle.dt_rows.specs.Rows.{elements_of_rows, IsRun, AreRows, bytes_in, packed_rows}
use Rattle.dt_rows.proofs.Cutting.{length-row}
use Rattle.dt_rows.proofs.Filling.{fewer}
use Rattle.dt_rows.proofs.InsideRows.{row_inside}
use Rattle.dt_rows.proofs.Joined.{length-joined}
use Rattle.dt_rows.proofs.RowBytes.{pieces_by_number, rows_native, rows_external}

pub some_elements : (rep : Rep) (run : Run) → IsRun rep run → 0 < run.elements
some_elements rep run is =
    let none : 0 * packed_size rep run.kind ≡ 0 = omega arith in
    let some = is.some in
    let within = is.within in
    fewer 0 run.elements (packed_size rep run.kind) (omega (arith, none, some, within))

-- bytes of a front of a list
cut_of_front : (xs : List ℕ) (m k b : ℕ) → k + b ≤ m → take b (drop k (take m xs)) ≡ take b (drop k xs)
cut_of_front xs m k b within =
    let parts : m ≡ k + (m - k) = omega arith in
    ap (λ n. take b (drop k (take n xs))) parts ∙ ap (take b) (drop-take k (m - k) xs) ∙ take-take b (m - k) (drop k xs) (omega arith)

module _ (r : Rows) (origin start : ℤ) (buffer : List ℕ) (is : start ≡ r.run.disp +ℤ origin) (all : are_inside (length buffer) (shift origin (elements_of_rows r)) ≡ true) where
  -- each row lies inside
  pub inside : (rep : Rep) → AreRows rep r → (i : ℕ) → i < r.rows → IsPiece (length buffer) (r.run.elements * native_size r.run.kind) (start +ℤ (pos i *ℤ r.step))
  inside rep rows i row = row_inside (length buffer) r origin start all (some_elements rep r.run rows.run) is i row

  pub first_inside : (rep : Rep) → AreRows rep r → IsPiece (length buffer) (r.run.elements * native_size r.run.kind) start
  first_inside rep rows =
      let here = inside rep rows 0 rows.some in
      let same : start +ℤ (pos 0 *ℤ r.step) ≡ start = omega (arith, ints) in
      let from = here.from in
      let within = here.within in
      record { from = omega (arith, ints, from, same); within = omega (arith, ints, within, same, ap nat_abs same) }

  -- the bytes of each row lie inside
  pub bytes_inside : AreRows Native r → (i : ℕ) → i < r.rows → IsPiece (length buffer) r.run.bytes ((start +ℤ pos r.run.skip) +ℤ (pos i *ℤ r.step))
  bytes_inside rows i row =
      let here = inside Native rows i row in
      let from = here.from in
      let within = here.within in
      let cut = rows.run.within in
      record { from = omega (arith, ints, from); within = omega (arith, ints, from, within, cut) }

  -- so these places fit into 64 bits
  pub start_fits : (rep : Rep) → AreRows rep r → length buffer < 2 ^ 63 → SFits w64 start
  start_fits rep rows near =
      let within = (first_inside rep rows).within in
      fits_signed_from_abs w64 start (omega (arith, within, near))

  pub first_fits : AreRows Native r → length buffer < 2 ^ 63 → SFits w64 (start +ℤ pos r.run.skip)
  first_fits rows near =
      let here = bytes_inside rows 0 rows.some in
      let same : (start +ℤ pos r.run.skip) +ℤ (pos 0 *ℤ r.step) ≡ start +ℤ pos r.run.skip = omega (arith, ints) in
      let within = here.within in
      fits_signed_from_abs w64 (start +ℤ pos r.run.skip) (omega (arith, within, near, ap nat_abs same))

  whole_native : AreRows Native r → length (pieces (λ b. b) (r.run.elements * native_size r.run.kind) buffer (row_offsets start r.rows r.step)) ≡ r.rows * (r.run.elements * native_size r.run.kind)
  whole_native rows =
      let w = r.run.elements * native_size r.run.kind in
      ap length (pieces_by_number (λ b. b) w buffer start r.rows r.step)
      ∙ length-joined (λ j. bytes_from buffer w (start +ℤ (pos j *ℤ r.step))) w r.rows (λ i row.
      (let within = (inside Native rows i row).within in
      length-take-le w (drop (nat_abs (start +ℤ (pos i *ℤ r.step))) buffer) (omega (arith, within, length-drop (nat_abs (start +ℤ (pos i *ℤ r.step))) buffer))))

  pub native_bytes : AreRows Native r → packed_rows Native r origin buffer ≡ pieces (λ b. b) r.run.bytes buffer (row_offsets (start +ℤ pos r.run.skip) r.rows r.step)
  native_bytes rows =
      let w = r.run.elements * native_size r.run.kind in
      let plain = rows_native r origin start buffer is (λ i row. (inside Native rows i row).from) in
      ap (λ p. take (bytes_in r) (drop r.run.skip p)) plain
      ∙ elim (cases_lt 1 r.rows) [
        | inl many ↦
            let cut = rows.whole many in
            let at : start ≡ start +ℤ pos r.run.skip = omega (arith, ints, cut.0) in
            let long = whole_native rows in
            let size = ap (λ n. r.rows * n) cut.1 in
            ap (λ k. take (bytes_in r) (drop k (pieces (λ b. b) w buffer (row_offsets start r.rows r.step)))) cut.0
            ∙ take_all (bytes_in r) (pieces (λ b. b) w buffer (row_offsets start r.rows r.step)) (omega (arith, long, size))
            ∙ ap (λ n. pieces (λ b. b) n buffer (row_offsets start r.rows r.step)) (sym cut.1)
            ∙ ap (λ x. pieces (λ b. b) r.run.bytes buffer (row_offsets x r.rows r.step)) at
        | inr few ↦
            let some = rows.some in
            let one : r.rows ≡ 1 = omega arith in
            let here = start +ℤ (pos 0 *ℤ r.step) in
            let there = (start +ℤ pos r.run.skip) +ℤ (pos 0 *ℤ r.step) in
            let from = (inside Native rows 0 rows.some).from in
            let count : 1 * r.run.bytes ≡ r.run.bytes = omega arith in
            let place : nat_abs here + r.run.skip ≡ nat_abs there = omega (arith, ints, from) in
            ap (λ k. take (k * r.run.bytes) (drop r.run.skip (pieces (λ b. b) w buffer (row_offsets start k r.step)))) one
            ∙ ap (λ k. take k (drop r.run.skip (bytes_from buffer w here ++ []))) count
            ∙ ap (λ s. take r.run.bytes (drop r.run.skip s)) (append-nil (bytes_from buffer w here))
            ∙ cut_of_front (drop (nat_abs here) buffer) w r.run.skip r.run.bytes rows.run.within
            ∙ ap (take r.run.bytes) (drop-drop r.run.skip (nat_abs here) buffer ∙ ap (λ n. drop n buffer) place)
            ∙ sym (append-nil (bytes_from buffer r.run.bytes there))
            ∙ ap (λ k. pieces (λ b. b) r.run.bytes buffer (row_offsets (start +ℤ pos r.run.skip) k r.step)) (sym one)
      ]

  -- in external32, all bytes of rows
  pub external_whole : AreRows External32 r → r.run.skip ≡ 0 → r.run.bytes ≡ r.run.elements * external_size r.run.kind
      → packed_rows External32 r origin buffer ≡ flat_map (turned_row r.run.kind r.run.elements buffer) (row_offsets start r.rows r.step)
  external_whole rows begin whole =
      let row = turned_row r.run.kind r.run.elements buffer in
      let at : ℕ → ℤ = λ i. start +ℤ (pos i *ℤ r.step) in
      let all_rows = flat_map row (row_offsets start r.rows r.step) in
      let long =
      ap length (flat_map-map row at (below r.rows))
      ∙ length-joined (λ i. row (at i)) (r.run.elements * external_size r.run.kind) r.rows (λ i lt.
      length-row r.run.kind buffer r.run.elements r.run.elements (at i) (inside External32 rows i lt) (omega arith)) in
      let size = ap (λ n. r.rows * n) whole in
      ap (λ p. take (bytes_in r) (drop r.run.skip p)) (rows_external r origin start buffer is)
      ∙ ap (λ k. take (bytes_in r) (drop k all_rows)) begin
      ∙ take_all (bytes_in r) all_rows (omega (arith, long, size))

  -- in external32, some bytes of a row
  pub external_cut : AreRows External32 r → r.rows ≡ 1 → packed_rows External32 r origin buffer ≡ take r.run.bytes (drop r.run.skip (turned_row r.run.kind r.run.elements buffer start))
  external_cut rows one =
      let row = turned_row r.run.kind r.run.elements buffer in
      let here : start +ℤ (pos 0 *ℤ r.step) ≡ start = omega (arith, ints) in
      let count : 1 * r.run.bytes ≡ r.run.bytes = omega arith in
      ap (λ p. take (bytes_in r) (drop r.run.skip p)) (rows_external r origin start buffer is)
      ∙ ap (λ k. take (k * r.run.bytes) (drop r.run.skip (flat_map row (row_offsets start k r.step)))) one
      ∙ ap (λ k. take k (drop r.run.skip (row (start +ℤ (pos 0 *ℤ r.step)) ++ []))) count
      ∙ ap (λ s. take r.run.bytes (drop r.run.skip s)) (append-nil (row (start +ℤ (pos 0 *ℤ r.step))) ∙ ap row here)
