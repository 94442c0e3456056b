-- What bytes of rows complete.
use Rattle.std.specs.Prelude.{◌≡◌, ℕ, suc, ◌+◌, ◌-◌, ◌*◌, ◌/◌, ◌%◌, ◌<◌, ◌≤◌, ℤ, pos, ◌+ℤ◌, ◌*ℤ◌, List, [], ◌∷◌, ◌++◌, map, take, drop, length}
use Rattle.std.specs.List.{flat_map}
use Rattle.std.proofs.Common.{inl, inr, refl, sym, ap, ◌∙◌, arith, append_assoc, append-nil, length-append}
use Rattle.std.proofs.lemmas.Bool.{cases_lt}
use Rattle.std.proofs.lemmas.List.{drop-take, drop_all, length-take-le, map-append}
use Rattle.std.proofs.lemmas.Nat.{mul-le}
use Rattle.std.proofs.Math.Nat.{mod-eq-sub-div-mul, div-mul-le_self, mod-lt}
use Rattle.dt_cursor.specs.Walk.{Walk, AreNext, IsNext, further, one_row}
use Rattle.dt_kinds.specs.declared.kind.Kind.{Kind}
use Rattle.dt_kinds.specs.declared.kind.Rep.{Rep}
use Rattle.dt_kinds.specs.Kind.{native_size, packed_size}
use Rattle.dt_map.specs.Packed.{total}
use Rattle.dt_offsets.specs.Offsets.{row_offsets}
use Rattle.dt_rows.specs.declared.rows.Rows.{Rows}
use Rattle.dt_rows.specs.declared.rows.Run.{Run}
use Rattle.dt_rows.specs.Rows.{element_at, adjacent, elements_of_rows, AreRows, bytes_in}
use Rattle.dt_rows.proofs.Filling.{fewer, no_more}
use Rattle.dt_rows.proofs.Gathering.{row_more}
use Rattle.dt_rows.proofs.SettingRows.{drop_none, two_pieces}
use Rattle.dt_rows.proofs.Totals.{total_of_rows}
use Rattle.dt_unpack.specs.Session.{Session, walk_of, after, IsOpen}
use Rattle.dt_unpack.proofs.Opening.{none_held}
use Rattle.dt_unpack.proofs.Steps.{Takes, takes, rows_held, held_is_skip, model_after}

-- a byte of an element, where bytes of it are held
module _ (s : Session) (n : ℕ) (is : IsOpen s n) (run : Run) (next : IsNext (walk_of s) run) (most : run.bytes ≤ 1) (byte : ℕ) where
  abbrev size : ℕ
  size = packed_size s.rep run.kind

  pub one_element : run.elements ≡ 1
  one_element =
      let shape = next.shape.run in
      let some = shape.some in
      let skip = shape.skip in
      let within = shape.within in
      let each = shape.each in
      let two : 2 * size ≡ size + size = omega arith in
      let none : 0 * size ≡ 0 = omega arith in
      let under = fewer run.elements 2 size (omega (arith, each, most, skip, two)) in
      let over = fewer 0 run.elements size (omega (arith, none, within, some)) in
      omega (arith, under, over)

  pub bytes_of_one : total s.rep (elements_of_rows (one_row run)) ≡ size
  bytes_of_one =
      total_of_rows s.rep (one_row run) ∙ ap (λ k. 1 * (k * size)) one_element ∙ (let plain : 1 * (1 * size) ≡ size = omega arith in plain)

  pub not_over : length s.held + 1 ≤ size
  not_over = let same = held_is_skip s n is (one_row run) next in let skip = next.shape.run.skip in omega (arith, same, skip)

  pub one_byte : run.bytes ≡ length (byte ∷ [])
  one_byte = let some = next.shape.run.some in omega (arith, some, most)

  pub byte_completes : length s.held + 1 ≡ size → Takes s n (byte ∷ []) (elements_of_rows (one_row run))
  byte_completes full =
      takes s n is (one_row run) next (elements_of_rows (one_row run)) next.after (byte ∷ []) 0 refl (let bytes = bytes_of_one in omega (arith, full, bytes)) (none_held s.rep next.after)

  pub byte_is_held : length s.held + 1 < size → Takes s n (byte ∷ []) []
  byte_is_held less =
      takes s n is (one_row run) next [] (elements_of_rows (one_row run) ++ next.after) (byte ∷ []) (length s.held + 1) refl (omega arith)
      (rows_held s.rep (one_row run) next.shape (length s.held + 1) next.after less)

-- what is left behind no elements
pub held_is_left : (rep : Rep) (held piece : List ℕ) → held ++ piece ≡ drop (total rep []) (held ++ piece)
held_is_left rep held piece = sym (drop_none (held ++ piece))

-- rows cut to the whole elements of their bytes, of so many bytes each
abbrev pub cut_by : Rows → ℕ → Rows
cut_by r size = record {
  run = record { kind = r.run.kind; disp = r.run.disp; elements = r.run.bytes / size; skip = 0; bytes = r.run.bytes / size * size };
  rows = r.rows;
  step = r.step;
}

-- rows of fewer elements each, whole ones
abbrev pub short : Rep → Rows → ℕ → Rows
short rep r q = record {
  run = record { kind = r.run.kind; disp = r.run.disp; elements = q; skip = 0; bytes = q * packed_size rep r.run.kind };
  rows = r.rows;
  step = r.step;
}

pub short_rows : (rep : Rep) (r : Rows) (q : ℕ) → 0 < r.rows → 0 < packed_size rep r.run.kind → 0 < q → AreRows rep (short rep r q)
short_rows rep r q some wide many = record {
  some = some;
  run = record {
    some = (let least = mul-le 1 1 q (packed_size rep r.run.kind) many wide in omega (arith, least));
    skip = wide;
    within = omega arith;
    each = omega (arith, wide);
  };
  whole = λ more. (refl, refl);
}

module _ (s : Session) (n : ℕ) (is : IsOpen s n) (r : Rows) (next : AreNext (walk_of s) r) (none : length s.held ≡ 0) (piece : List ℕ) (enough : bytes_in r ≤ length piece) where
  abbrev wide : ℕ
  wide = packed_size s.rep r.run.kind

  abbrev q : ℕ
  q = r.run.bytes / wide

  abbrev t : ℕ
  t = r.run.bytes % wide

  pub some_size : 0 < wide
  some_size = let skip = next.shape.run.skip in omega (arith, skip)

  parts : r.run.bytes ≡ q * wide + t
  parts = let left = mod-eq-sub-div-mul r.run.bytes wide in let div = div-mul-le_self r.run.bytes wide in omega (arith, left, div)

  small : t < wide
  small = mod-lt r.run.bytes {m = wide} some_size

  no_skip : r.run.skip ≡ 0
  no_skip = let same = held_is_skip s n is r next in omega (arith, same, none)

  row_bytes : total s.rep (elements_of_rows (short s.rep r q)) ≡ r.rows * (q * wide)
  row_bytes = total_of_rows s.rep (short s.rep r q)

  cut : length (take (bytes_in r) piece) ≡ bytes_in r
  cut = length-take-le (bytes_in r) piece enough

  -- all elements are whole
  all_whole : t ≡ 0 → Takes s n (take (bytes_in r) piece) (elements_of_rows (short s.rep r q))
  all_whole zero =
      let within = next.shape.run.within in
      let each = next.shape.run.each in
      let split = parts in
      let skip = no_skip in
      let next_one : suc q * wide ≡ q * wide + wide = omega arith in
      let low = no_more q r.run.elements wide some_size (omega (arith, within, split, skip, zero)) in
      let high = fewer r.run.elements (suc q) wide (omega (arith, each, split, skip, zero, next_one)) in
      let same : r.run.elements ≡ q = omega (arith, low, high) in
      let rows : elements_of_rows r ≡ elements_of_rows (short s.rep r q) = ap (λ k. flat_map (adjacent r.run.kind k) (row_offsets r.run.disp r.rows r.step)) same in
      let bytes : bytes_in r ≡ r.rows * (q * wide) = ap (λ k. r.rows * k) (let plain : r.run.bytes ≡ q * wide = omega (arith, split, zero) in plain) in
      let sum = row_bytes in
      let long = cut in
      takes s n is r next (elements_of_rows (short s.rep r q)) next.after (take (bytes_in r) piece) 0 (ap (λ es. es ++ next.after) rows) (omega (arith, none, long, bytes, sum)) (none_held s.rep next.after)

  -- the last element is cut
  last_cut : 0 < t → Takes s n (take (bytes_in r) piece) (elements_of_rows (short s.rep r q))
  last_cut some =
      let within = next.shape.run.within in
      let each = next.shape.run.each in
      let split = parts in
      let skip = no_skip in
      let less = small in
      let two : (q + 2) * wide ≡ q * wide + wide + wide = omega arith in
      let one_more : (q + 1) * wide ≡ q * wide + wide = omega arith in
      let over = fewer q r.run.elements wide (omega (arith, within, split, skip, some)) in
      let under = fewer r.run.elements (q + 2) wide (omega (arith, each, split, skip, less, two)) in
      let same : r.run.elements ≡ q + 1 = omega (arith, over, under) in
      let single : r.rows ≡ 1 =
      elim (cases_lt 1 r.rows) [
        | inl many ↦ (let all = (next.shape.whole many).1 ∙ ap (λ k. k * wide) same in absurd (omega (arith, all, split, less, some, one_more)))
        | inr few ↦ (let at_least = next.shape.some in omega (arith, few, at_least))
      ] in
      let x = r.run.disp +ℤ (pos 0 *ℤ r.step) in
      let last = element_at r.run.kind (x +ℤ (pos q *ℤ pos (native_size r.run.kind))) in
      let row : adjacent r.run.kind (q + 1) x ≡ adjacent r.run.kind q x ++ last ∷ [] =
      ap (map (element_at r.run.kind)) (row_more x (pos (native_size r.run.kind)) q) ∙ map-append (element_at r.run.kind) (row_offsets x q (pos (native_size r.run.kind))) _ in
      let whole : elements_of_rows r ≡ adjacent r.run.kind q x ++ last ∷ [] =
      ap (λ k. flat_map (adjacent r.run.kind r.run.elements) (row_offsets r.run.disp k r.step)) single ∙ append-nil (adjacent r.run.kind r.run.elements x)
      ∙ ap (λ k. adjacent r.run.kind k x) same ∙ row in
      let here : elements_of_rows (short s.rep r q) ≡ adjacent r.run.kind q x =
      ap (λ k. flat_map (adjacent r.run.kind q) (row_offsets r.run.disp k r.step)) single ∙ append-nil (adjacent r.run.kind q x) in
      let rows : elements_of_rows r ++ next.after ≡ elements_of_rows (short s.rep r q) ++ (last ∷ next.after) =
      ap (λ es. es ++ next.after) whole ∙ append_assoc (adjacent r.run.kind q x) (last ∷ []) next.after ∙ ap (λ es. es ++ (last ∷ next.after)) (sym here) in
      let bytes : bytes_in r ≡ 1 * r.run.bytes = ap (λ k. k * r.run.bytes) single in
      let sum : total s.rep (elements_of_rows (short s.rep r q)) ≡ 1 * (q * wide) = row_bytes ∙ ap (λ k. k * (q * wide)) single in
      let long = cut in
      takes s n is r next (elements_of_rows (short s.rep r q)) (last ∷ next.after) (take (bytes_in r) piece) t rows (omega (arith, none, long, bytes, sum, split)) less

  pub rows_take : Takes s n (take (bytes_in r) piece) (elements_of_rows (short s.rep r q))
  rows_take =
      elim (cases_lt 0 t) [
        | inl some ↦ last_cut some
        | inr zero ↦ all_whole (omega (arith, zero))
      ]

  pub row_count : total s.rep (elements_of_rows (short s.rep r q)) ≡ bytes_in (short s.rep r q)
  row_count = row_bytes

  pub rows_within : r.rows * (q * wide) ≤ bytes_in r
  rows_within = mul-le r.rows (q * wide) r.rows r.run.bytes (omega arith) (let split = parts in omega (arith, split))

-- rows without elements
pub nothing_each : (kind : Kind) (places : List ℤ) → flat_map (adjacent kind 0) places ≡ []
nothing_each kind [] = refl
nothing_each kind (x ∷ places) = nothing_each kind places

-- the bytes of a piece behind those that were set
pub left_over : (held piece : List ℕ) (a b : ℕ) → length held ≡ 0 → a ≤ b → held ++ take (b - a) (drop a piece) ≡ drop a (held ++ take b piece)
left_over [] piece a b none within =
    let sum : a + (b - a) ≡ b = omega (arith, within) in
    sym (drop-take a (b - a) piece) ∙ ap (λ k. drop a (take k piece)) sum
left_over (x ∷ held) piece a b none within = absurd (omega (arith, none))

pub whole_piece : (held piece : List ℕ) (a b : ℕ) → length held ≡ 0 → a ≤ b → take a piece ++ take (b - a) (drop a piece) ≡ held ++ take b piece
whole_piece [] piece a b none within =
    let sum : a + (b - a) ≡ b = omega (arith, within) in
    two_pieces piece a (b - a) ∙ ap (λ k. take k piece) sum
whole_piece (x ∷ held) piece a b none within = absurd (omega (arith, none))

-- a session, by its parts
abbrev pub model_of : Walk → ℤ → ℕ → ℕ → List ℕ → Session
model_of w origin buf_len one held = record { rep = w.rep; elements = w.elements; origin = origin; buf_len = buf_len; one = one; given = w.position; held = held }

-- what is known where rows were named, and their whole elements found
pub record RowsAreTaken (s : Session) (n : ℕ) (r : Rows) (piece : List ℕ) (width : ℕ) (rep : Rep) (found : Rows) : Type 0 where
  pub rep_is : rep ≡ s.rep
  pub size_is : width ≡ packed_size s.rep r.run.kind
  pub whole : Rows
  pub is : found ≡ whole
  pub elements : whole.rows * whole.run.elements ≡ r.rows * (r.run.bytes / width)
  pub none : length s.held ≡ 0
  pub enough : bytes_in r ≤ length piece
  pub within : bytes_in whole ≤ bytes_in r
  pub bytes : total s.rep (elements_of_rows whole) ≡ bytes_in whole
  pub takes : Takes s n (take (bytes_in r) piece) (elements_of_rows whole)

pub rows_are_taken : (s u : Session) → s ≡ u → (n : ℕ) → IsOpen s n → (r : Rows) → AreNext (walk_of s) r → (piece : List ℕ) → length u.held ≡ 0 → bytes_in r ≤ length piece
    → (rep : Rep) (w : Walk) → rep ≡ w.rep → w ≡ further (walk_of s) (bytes_in r) → (width : ℕ) → width ≡ packed_size rep r.run.kind → (found : Rows) → found ≡ cut_by r width
    → RowsAreTaken s n r piece width rep found
rows_are_taken s u view n is r next piece none enough rep w reads moved width sized found cut =
    let rep_is = reads ∙ ap (λ (v : Walk). v.rep) moved in
    let size_is = sized ∙ ap (λ p. packed_size p r.run.kind) rep_is in
    let empty = ap (λ (v : Session). length v.held) view ∙ none in
    record {
      rep_is = rep_is;
      size_is = size_is;
      whole = short s.rep r (r.run.bytes / packed_size s.rep r.run.kind);
      is = cut ∙ ap (cut_by r) size_is;
      elements = ap (λ k. r.rows * (r.run.bytes / k)) (sym size_is);
      none = empty;
      enough = enough;
      within = rows_within s n is r next empty piece enough;
      bytes = row_count s n is r next empty piece enough;
      takes = rows_take s n is r next empty piece enough;
    }

-- what is known where a byte was pushed to held ones
pub record ByteIsTaken (s : Session) (n : ℕ) (run : Run) (byte width : ℕ) (rep : Rep) : Type 0 where
  pub rep_is : rep ≡ s.rep
  pub one : run.elements ≡ 1
  pub single : run.bytes ≡ length (byte ∷ [])
  pub bytes : total s.rep (elements_of_rows (one_row run)) ≡ packed_size s.rep run.kind
  pub full : length s.held + 1 ≡ width → (length s.held + 1 ≡ packed_size s.rep run.kind) × Takes s n (byte ∷ []) (elements_of_rows (one_row run))
  pub more : (length s.held + 1 ≡ width → ⊥) → Takes s n (byte ∷ []) []

pub byte_is_taken : (s : Session) (n : ℕ) → IsOpen s n → (run : Run) → IsNext (walk_of s) run → run.bytes ≤ 1 → (byte : ℕ)
    → (rep : Rep) (w : Walk) → rep ≡ w.rep → w ≡ further (walk_of s) run.bytes → (width : ℕ) → width ≡ packed_size rep run.kind → ByteIsTaken s n run byte width rep
byte_is_taken s n is run next most byte rep w reads moved width sized =
    let rep_is = reads ∙ ap (λ (v : Walk). v.rep) moved in
    let size_is = sized ∙ ap (λ p. packed_size p run.kind) rep_is in
    let under = not_over s n is run next most byte in
    record {
      rep_is = rep_is;
      one = one_element s n is run next most byte;
      single = one_byte s n is run next most byte;
      bytes = bytes_of_one s n is run next most byte;
      full = λ all. (all ∙ size_is, byte_completes s n is run next most byte (all ∙ size_is));
      more = λ other. byte_is_held s n is run next most byte (
          elim (cases_lt (length s.held + 1) (packed_size s.rep run.kind)) [
            | inl less ↦ less
            | inr all ↦ absurd (other (omega (arith, all, under, size_is)))
          ]);
    }

-- the session after rows were taken, by its parts
pub rows_model : (s : Session) (n : ℕ) (r : Rows) (piece : List ℕ) (width : ℕ) (rep : Rep) (found : Rows) (k : RowsAreTaken s n r piece width rep found)
    → (w : Walk) (held : List ℕ) → w ≡ further (walk_of s) (bytes_in r) → held ≡ s.held ++ take (bytes_in r - bytes_in found) (drop (bytes_in found) piece)
    → model_of w s.origin s.buf_len s.one held ≡ after s (take (bytes_in r) piece)
rows_model s n r piece width rep found k w held moved hold =
    model_after s n (take (bytes_in r) piece) (elements_of_rows k.whole) k.takes w (bytes_in r) held moved (sym (length-take-le (bytes_in r) piece k.enough))
    (hold ∙ ap (λ f. s.held ++ take (bytes_in r - bytes_in f) (drop (bytes_in f) piece)) k.is
    ∙ left_over s.held piece (bytes_in k.whole) (bytes_in r) k.none k.within
    ∙ ap (λ b. drop b (s.held ++ take (bytes_in r) piece)) (sym k.bytes))

-- the session after a byte, by its parts: where it completes an element, and where it doesn't
pub full_model : (s : Session) (n : ℕ) (run : Run) (byte width : ℕ) (rep : Rep) (k : ByteIsTaken s n run byte width rep)
    → (length s.held + 1 ≡ packed_size s.rep run.kind) × Takes s n (byte ∷ []) (elements_of_rows (one_row run))
    → (w : Walk) (held : List ℕ) → w ≡ further (walk_of s) run.bytes → held ≡ [] → model_of w s.origin s.buf_len s.one held ≡ after s (byte ∷ [])
full_model s n run byte width rep k full w held moved none =
    let bytes = k.bytes in
    let all = full.0 in
    model_after s n (byte ∷ []) (elements_of_rows (one_row run)) full.1 w run.bytes held moved k.single
    (none ∙ sym (drop_all _ (s.held ++ byte ∷ []) (omega (arith, all, bytes, length-append s.held (byte ∷ [])))))

pub more_model : (s : Session) (n : ℕ) (run : Run) (byte width : ℕ) (rep : Rep) (k : ByteIsTaken s n run byte width rep) → Takes s n (byte ∷ []) []
    → (w : Walk) (held : List ℕ) → w ≡ further (walk_of s) run.bytes → held ≡ s.held ++ byte ∷ [] → model_of w s.origin s.buf_len s.one held ≡ after s (byte ∷ [])
more_model s n run byte width rep k t w held moved pushed =
    model_after s n (byte ∷ []) [] t w run.bytes held moved k.single (pushed ∙ held_is_left s.rep s.held (byte ∷ []))
