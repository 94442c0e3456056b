-- What comes next of the bytes of elements, by the rows that a walk names.
use Rattle.std.proofs.Common.{◌≡◌, ℕ, suc, ◌+◌, ◌-◌, ◌*◌, ◌≤◌, true, ℤ, pos, ◌+ℤ◌, ◌*ℤ◌, List, [], ◌∷◌, ◌++◌, map, take, drop, length, replicate, refl, SFits, sym, ap, subst, ◌∙◌, arith, length-drop}
use Rattle.std.specs.Prelude.{nat_abs}
use Rattle.std.specs.List.{flat_map}
use Rattle.std.proofs.lemmas.Grind.{flat_map-append}
use Rattle.std.proofs.lemmas.Int.{ints, fits_signed_from_abs}
use Rattle.std.specs.Int.{w64}
use Rattle.std.proofs.lemmas.List.{take-append-le, drop-append-le, drop-replicate, length-replicate, take-replicate, replicate-append-replicate}
use Rattle.std.proofs.Math.Seq.{drop-append-add}
use Rattle.dt_cursor.specs.Walk.{Walk, AreNext}
use Rattle.dt_kinds.specs.declared.kind.Kind.{Kind}
use Rattle.dt_kinds.specs.declared.kind.Kind.TheVariants.{Byte}
use Rattle.dt_kinds.specs.declared.kind.Rep.TheVariants.{Native}
use Rattle.dt_kinds.specs.Kind.{native_size}
use Rattle.dt_map.specs.declared.entry.Entry.{Entry}
use Rattle.dt_map.specs.Elements.{are_inside}
use Rattle.dt_map.specs.Packed.{total}
use Rattle.dt_map.specs.Typemap.{shift}
use Rattle.dt_map.proofs.Copies.{total-append, total-shift}
use Rattle.dt_map.proofs.Placings.{shift-append}
use Rattle.dt_offsets.specs.Offsets.{row_offsets}
use Rattle.dt_rows.specs.declared.rows.Rows.{Rows}
use Rattle.dt_rows.specs.Pieces.{IsPiece}
use Rattle.dt_rows.specs.Rows.{element_at, adjacent, elements_of_rows, AreRows, bytes_in}
use Rattle.dt_rows.proofs.InsideRows.{row_inside}
use Rattle.dt_rows.proofs.Packing.{some_elements}
use Rattle.dt_rows.proofs.Totals.{bytes_within, some_bytes}
use Rattle.dt_copy.specs.declared.side.Stretch.{Stretch}
use Rattle.dt_copy.specs.Side.{Reader, AreNextBytes, IsNextStretch, bytes_at_rows, bytes_of, kinds_of}
use Rattle.dt_copy.proofs.Elements.{length-all, length-bytes_of, length-kinds_of, bytes_sized, kinds_sized}
use Rattle.dt_copy.proofs.Named.{bytes_inside, inside-append, inside_piece, named_bytes_are}

module _ (w : Walk) (r : Rows) (next : AreNext w r) (o : ℤ) where
  abbrev before : List Entry
  before = shift o next.before

  abbrev here : List Entry
  here = shift o (elements_of_rows r)

  abbrev later : List Entry
  later = shift o next.after

  parts : shift o w.elements ≡ before ++ (here ++ later)
  parts =
      ap (shift o) next.all ∙ shift-append o next.before (elements_of_rows r ++ next.after)
      ∙ ap (λ s. before ++ s) (shift-append o (elements_of_rows r) next.after)

  -- rows that come next name bytes that are still to come
  pub still_to_come : w.position + bytes_in r ≤ total w.rep w.elements
  still_to_come =
      let all = ap (total w.rep) next.all in
      let sum = total-append w.rep next.before (elements_of_rows r ++ next.after) in
      let more = total-append w.rep (elements_of_rows r) next.after in
      let within = bytes_within w.rep r next.shape in
      omega (arith, all, sum, more, within, next.place)

  pub rows_inside : (len : ℕ) → are_inside len (shift o w.elements) ≡ true → are_inside len here ≡ true
  rows_inside len inside =
      (inside-append len here later (inside-append len before (here ++ later) (ap (are_inside len) (sym parts) ∙ inside)).1).0

  -- of what the bytes of elements are, the rows name what comes next
  module _ {A : Type 0} (g : Entry → List A) (sized : (e : Entry) → length (g e) ≡ native_size e.kind) (native : w.rep ≡ Native) where
    pub next_of : take (bytes_in r) (drop w.position (flat_map g (shift o w.elements))) ≡ take (bytes_in r) (drop r.run.skip (flat_map g here))
    next_of =
        let a = flat_map g before in
        let b = flat_map g here in
        let c = flat_map g later in
        let bytes : flat_map g (shift o w.elements) ≡ a ++ (b ++ c) =
        ap (flat_map g) parts ∙ flat_map-append g before (here ++ later) ∙ ap (λ s. a ++ s) (flat_map-append g here later) in
        let long = length-all g sized before ∙ total-shift Native o next.before ∙ ap (λ rep. total rep next.before) (sym native) in
        let wide = length-all g sized here ∙ total-shift Native o (elements_of_rows r) ∙ ap (λ rep. total rep (elements_of_rows r)) (sym native) in
        let within = bytes_within w.rep r next.shape in
        let place : w.position ≡ length a + r.run.skip = omega (arith, next.place, long) in
        ap (λ s. take (bytes_in r) (drop w.position s)) bytes
        ∙ ap (λ n. take (bytes_in r) (drop n (a ++ (b ++ c)))) place
        ∙ ap (take (bytes_in r)) (drop-append-add a (b ++ c) r.run.skip ∙ drop-append-le r.run.skip b c (omega (arith, wide, within)))
        ∙ take-append-le (bytes_in r) (drop r.run.skip b) c (omega (arith, wide, within, length-drop r.run.skip b))

-- places in a small buffer fit into 64 bits
module _ (len skip bytes : ℕ) (x : ℤ) (first : IsPiece len (skip + bytes) x) (small : len ≤ 16777216) where
  pub start_fits : SFits w64 x
  start_fits = (let within = first.within in fits_signed_from_abs w64 x (omega (arith, within, small)))

  pub first_fits : SFits w64 (x +ℤ pos skip)
  first_fits =
      let within = first.within in
      let from = first.from in
      let place : nat_abs (x +ℤ pos skip) ≡ nat_abs x + skip = omega (arith, ints, from) in
      fits_signed_from_abs w64 (x +ℤ pos skip) (omega (arith, within, small, place))

-- all bytes that a walk goes by are those of its elements
pub whole_bytes : (w : Walk) (o : ℤ) → w.rep ≡ Native → total w.rep w.elements ≡ length (bytes_of (shift o w.elements))
whole_bytes w o native = ap (λ rep. total rep w.elements) native ∙ sym (total-shift Native o w.elements) ∙ sym (length-bytes_of (shift o w.elements))

pub whole_kinds : (w : Walk) (o : ℤ) → w.rep ≡ Native → total w.rep w.elements ≡ length (kinds_of (shift o w.elements))
whole_kinds w o native = ap (λ rep. total rep w.elements) native ∙ sym (total-shift Native o w.elements) ∙ sym (length-kinds_of (shift o w.elements))

-- the kinds of rows
kinds_of_places : (kind : Kind) (o : ℤ) (xs : List ℤ) → kinds_of (shift o (map (element_at kind) xs)) ≡ replicate (length xs * native_size kind) kind
kinds_of_places kind o [] = (let none : 0 * native_size kind ≡ 0 = omega arith in ap (λ n. replicate n kind) (sym none))
kinds_of_places kind o (x ∷ xs) =
    let more : native_size kind + length xs * native_size kind ≡ suc (length xs) * native_size kind = omega arith in
    ap (λ ks. replicate (native_size kind) kind ++ ks) (kinds_of_places kind o xs)
    ∙ replicate-append-replicate (native_size kind) (length xs * native_size kind) kind ∙ ap (λ n. replicate n kind) more

kinds_of_rows : (kind : Kind) (n : ℕ) (o : ℤ) (xs : List ℤ) → (m : ℕ) × (kinds_of (shift o (flat_map (adjacent kind n) xs)) ≡ replicate m kind)
kinds_of_rows kind n o [] = (0, refl)
kinds_of_rows kind n o (x ∷ xs) =
    let rest = kinds_of_rows kind n o xs in
    let places = row_offsets x n (pos (native_size kind)) in
    let k = length places * native_size kind in (
      k + rest.0,
      ap kinds_of (shift-append o (adjacent kind n x) (flat_map (adjacent kind n) xs))
          ∙ flat_map-append (λ e. replicate (native_size e.kind) e.kind) (shift o (adjacent kind n x)) (shift o (flat_map (adjacent kind n) xs))
          ∙ ap (λ ks. ks ++ kinds_of (shift o (flat_map (adjacent kind n) xs))) (kinds_of_places kind o places)
          ∙ ap (λ ks. replicate k kind ++ ks) rest.1
          ∙ replicate-append-replicate k rest.0 kind,
    )

module _ (w : Walk) (r : Rows) (next : AreNext w r) (native : w.rep ≡ Native) (o : ℤ) (len : ℕ) (inside : are_inside len (shift o w.elements) ≡ true) where
  shape : AreRows Native r
  shape = subst (λ rep. AreRows rep r) native next.shape

  -- the first of rows that come next lies in the buffer
  pub first_inside : IsPiece len (r.run.skip + r.run.bytes) (r.run.disp +ℤ o)
  first_inside =
      let all = rows_inside w r next o len inside in
      let row = row_inside len r o (r.run.disp +ℤ o) all (some_elements Native r.run shape.run) refl 0 shape.some in
      let same : (r.run.disp +ℤ o) +ℤ (pos 0 *ℤ r.step) ≡ r.run.disp +ℤ o = omega (arith, ints) in
      let from = subst (λ x. IsPiece len (r.run.elements * native_size r.run.kind) x) same row in
      let most = from.within in
      let cut = shape.run.within in
      record { from = from.from; within = omega (arith, most, cut) }

  -- and their bytes are the next ones
  pub rows_are_next : len ≤ 16777216 → (let q : Reader = record { elements = shift o w.elements; len = len; position = w.position } in AreNextBytes q (bytes_at_rows o r))
  rows_are_next small =
      let some = shape.run.some in
      let bytes : take (bytes_in r) (drop w.position (bytes_of (shift o w.elements))) ≡ elements_of_rows (bytes_at_rows o r) =
      next_of w r next o (λ e. adjacent Byte (native_size e.kind) e.disp) bytes_sized native ∙ named_bytes_are r shape o in
      let one : r.run.bytes ≡ r.run.bytes * 1 = omega arith in
      let all = length-bytes_of (shift o w.elements) ∙ total-shift Native o w.elements ∙ ap (λ rep. total rep w.elements) (sym native) in
      let come = still_to_come w r next o in
      record {
        shape = record {
          some = shape.some;
          run = record { some = some; skip = omega arith; within = omega arith; each = omega arith };
          whole = λ more. (refl, one);
        };
        whole = (refl, one);
        bytes = bytes;
        inside = ap (are_inside len) (sym bytes) ∙ inside_piece len (bytes_in r) w.position (bytes_of (shift o w.elements)) (bytes_inside len (shift o w.elements) inside);
        small = small;
        within = omega (arith, all, come);
      }

-- the kinds of rows are the next ones
pub stretch_is_next : (w : Walk) (r : Rows) (next : AreNext w r) (native : w.rep ≡ Native) (o : ℤ) (len : ℕ)
    → let q : Reader = record { elements = shift o w.elements; len = len; position = w.position } in
    let s : Stretch = record { kind = r.run.kind; bytes = bytes_in r } in IsNextStretch q s
stretch_is_next w r next native o len =
    let all = length-kinds_of (shift o w.elements) ∙ total-shift Native o w.elements ∙ ap (λ rep. total rep w.elements) (sym native) in
    let come = still_to_come w r next o in
    let rows = kinds_of_rows r.run.kind r.run.elements o (row_offsets r.run.disp r.rows r.step) in
    let many : rows.0 ≡ total w.rep (elements_of_rows r) =
    sym (length-replicate rows.0 r.run.kind) ∙ ap length (sym rows.1) ∙ length-kinds_of (shift o (elements_of_rows r)) ∙ total-shift Native o (elements_of_rows r) ∙ ap (λ rep. total rep (elements_of_rows r)) (sym native) in
    let within = bytes_within w.rep r next.shape in
    record {
      some = some_bytes w.rep r next.shape;
      kinds =
          next_of w r next o (λ e. replicate (native_size e.kind) e.kind) kinds_sized native
          ∙ ap (λ ks. take (bytes_in r) (drop r.run.skip ks)) rows.1
          ∙ ap (take (bytes_in r)) (drop-replicate r.run.skip rows.0 r.run.kind)
          ∙ take-replicate (bytes_in r) (rows.0 - r.run.skip) r.run.kind (omega (arith, many, within));
      within = omega (arith, all, come);
    }
