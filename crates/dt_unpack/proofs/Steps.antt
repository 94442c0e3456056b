-- What rows that a walk names next do to a session.
use Rattle.std.specs.Prelude.{◌≡◌, ℕ, suc, ◌+◌, ◌*◌, ◌<◌, ◌≤◌, ℤ, pos, List, [], ◌∷◌, ◌++◌, map, take, drop, length}
use Rattle.std.specs.List.{flat_map}
use Rattle.std.proofs.Common.{true, inl, inr, refl, sym, ap, subst, ◌∙◌, arith, length-append}
use Rattle.std.proofs.lemmas.Bool.{and_parts, cases_lt}
use Rattle.std.proofs.lemmas.List.{length-map, map-append}
use Rattle.std.proofs.lemmas.List.Folds.{list_all-append}
use Rattle.std.proofs.lemmas.List.Sums.{sum_by-cons}
use Rattle.std.proofs.lemmas.Nat.{mul-le}
use Rattle.dt_cursor.specs.Search.{AreHeld}
use Rattle.dt_cursor.specs.Walk.{Walk, AreNext, further}
use Rattle.dt_elems.proofs.Clashes.{overlaps_from_size}
use Rattle.dt_kinds.specs.declared.kind.Kind.{Kind}
use Rattle.dt_kinds.specs.declared.kind.Rep.{Rep}
use Rattle.dt_kinds.specs.declared.kind.Rep.TheVariants.{Native, External32}
use Rattle.dt_kinds.specs.Kind.{native_size, packed_size}
use Rattle.dt_kinds.proofs.Table.{native_size-pos, native_size-le, external_size-le}
use Rattle.dt_map.specs.declared.entry.Entry.{Entry}
use Rattle.dt_map.specs.Elements.{are_inside, lies_inside}
use Rattle.dt_map.specs.Packed.{total}
use Rattle.dt_map.specs.Setting.{set_each}
use Rattle.dt_map.specs.Typemap.{shift}
use Rattle.dt_map.proofs.Copies.{total-append, total-shift}
use Rattle.dt_map.proofs.Placings.{shift-append}
use Rattle.dt_offsets.specs.Offsets.{row_offsets}
use Rattle.dt_offsets.proofs.Reaches.{count-row}
use Rattle.dt_rows.specs.declared.rows.Rows.{Rows}
use Rattle.dt_rows.specs.Rows.{element_at, adjacent, elements_of_rows, AreRows}
use Rattle.dt_unpack.specs.Session.{Session, placed, complete, after, buffer_after, walk_of, IsBetween, IsOpen}
use Rattle.dt_unpack.proofs.Pieces.{done_at, front_of, between_after, completes, session_after, set_completed, set_front}

-- elements of one kind at places, before others: of the first, fewer bytes than it has may be held
held_of_kind : (rep : Rep) (kind : Kind) (h : ℕ) (places : List ℤ) (after : List Entry) → 0 < length places → h < packed_size rep kind → AreHeld rep h (map (element_at kind) places ++ after)
held_of_kind rep kind h [] after some less = absurd (omega (arith, some))
held_of_kind rep kind h (x ∷ places) after some less = less

-- the places of the elements of rows
abbrev places_of : Rows → List ℤ
places_of r = flat_map (λ x. row_offsets x r.run.elements (pos (native_size r.run.kind))) (row_offsets r.run.disp r.rows r.step)

at_places : (kind : Kind) (n : ℕ) (xs : List ℤ) → flat_map (adjacent kind n) xs ≡ map (element_at kind) (flat_map (λ x. row_offsets x n (pos (native_size kind))) xs)
at_places kind n [] = refl
at_places kind n (x ∷ xs) =
    ap (λ es. adjacent kind n x ++ es) (at_places kind n xs)
    ∙ sym (map-append (element_at kind) (row_offsets x n (pos (native_size kind))) (flat_map (λ x. row_offsets x n (pos (native_size kind))) xs))

length_rows : (kind : Kind) (n : ℕ) (xs : List ℤ) → length (flat_map (adjacent kind n) xs) ≡ length xs * n
length_rows kind n [] = omega arith
length_rows kind n (x ∷ xs) =
    let rest = length_rows kind n xs in
    let here : length (adjacent kind n x) ≡ n = length-map (row_offsets x n (pos (native_size kind))) (element_at kind) ∙ count-row x (pos (native_size kind)) n in
    let more : suc (length xs) * n ≡ n + length xs * n = omega arith in
    omega (arith, rest, here, more, length-append (adjacent kind n x) (flat_map (adjacent kind n) xs))

pub count_rows : (r : Rows) → length (elements_of_rows r) ≡ r.rows * r.run.elements
count_rows r = length_rows r.run.kind r.run.elements (row_offsets r.run.disp r.rows r.step) ∙ ap (λ n. n * r.run.elements) (count-row r.run.disp r.step r.rows)

module _ (rep : Rep) (r : Rows) (shape : AreRows rep r) where
  pub some_elements : 0 < r.run.elements
  some_elements =
      elim (cases_lt 0 r.run.elements) [
        | inl some ↦ some
        | inr none ↦
            let zero : r.run.elements ≡ 0 = omega (arith, none) in
            let bytes : r.run.elements * packed_size rep r.run.kind ≡ 0 = ap (λ n. n * packed_size rep r.run.kind) zero ∙ (let times : 0 * packed_size rep r.run.kind ≡ 0 = omega arith in times) in
            let within = shape.run.within in
            let some = shape.run.some in
            absurd (omega (arith, bytes, within, some))
      ]

  some_places : 0 < length (places_of r)
  some_places =
      let many = ap length (at_places r.run.kind r.run.elements (row_offsets r.run.disp r.rows r.step)) ∙ length-map (places_of r) (element_at r.run.kind) in
      let least = mul-le 1 1 r.rows r.run.elements shape.some some_elements in
      omega (arith, many, least, count_rows r)

  pub rows_held : (h : ℕ) (after : List Entry) → h < packed_size rep r.run.kind → AreHeld rep h (elements_of_rows r ++ after)
  rows_held h after less =
      subst (λ es. AreHeld rep h (es ++ after)) (sym (at_places r.run.kind r.run.elements (row_offsets r.run.disp r.rows r.step))) (held_of_kind rep r.run.kind h (places_of r) after some_places less)

inside_both : (len : ℕ) (es fs : List Entry) → are_inside len (es ++ fs) ≡ true → (are_inside len es ≡ true) × (are_inside len fs ≡ true)
inside_both len es fs all = and_parts (are_inside len es) (are_inside len fs) (sym (list_all-append (lies_inside len) es fs) ∙ all)

-- what a piece comes to, with a session of which so many elements are complete: it completes some elements
pub record Takes (s : Session) (n : ℕ) (piece : List ℕ) (here : List Entry) : Type 0 where
  pub opens : IsOpen (after s piece) (n + length here)
  pub session : after s piece ≡ record s { given = s.given + length piece; held = drop (total s.rep here) (s.held ++ piece) }
  pub buffer : (old : List ℕ) → buffer_after s old piece ≡ set_each s.rep (shift s.origin here) old (s.held ++ piece)
  pub inside : are_inside s.buf_len (shift s.origin here) ≡ true
  pub enough : total s.rep here ≤ length s.held + length piece
  pub many : n ≡ complete s

-- where rows come next, the session is between what stands before them and themselves
module _ (s : Session) (n : ℕ) (is : IsOpen s n) (r : Rows) (next : AreNext (walk_of s) r) where
  number_is : complete s ≡ n
  number_is = done_at s.rep s.elements is.before is.rest s.given (length s.held) is.between.all is.between.place is.between.within ∙ sym is.many

  number_too : complete s ≡ length next.before
  number_too = done_at s.rep s.elements next.before (elements_of_rows r ++ next.after) s.given r.run.skip next.all next.place (rows_held s.rep r next.shape r.run.skip next.after next.shape.run.skip)

  same_front : is.before ≡ next.before
  same_front =
      let same : length is.before ≡ length next.before = sym is.many ∙ sym number_is ∙ number_too in
      sym (front_of s.elements is.before is.rest is.between.all) ∙ ap (λ k. take k s.elements) same ∙ front_of s.elements next.before (elements_of_rows r ++ next.after) next.all

  pub held_is_skip : length s.held ≡ r.run.skip
  held_is_skip =
      let bytes = ap (total s.rep) same_front in
      let first = is.between.place in
      let second = next.place in
      omega (arith, bytes, first, second)

  pub between_rows : IsBetween s next.before (elements_of_rows r ++ next.after)
  between_rows = record {
    all = next.all;
    place = (let second = next.place in let same = held_is_skip in omega (arith, second, same));
    within = subst (λ h. AreHeld s.rep h (elements_of_rows r ++ next.after)) (sym held_is_skip) (rows_held s.rep r next.shape r.run.skip next.after next.shape.run.skip);
  }

  -- a piece that completes some elements: the session stays open
  pub open_after : (here rest : List Entry) (piece : List ℕ) (h : ℕ) → elements_of_rows r ++ next.after ≡ here ++ rest → length s.held + length piece ≡ total s.rep here + h → AreHeld s.rep h rest
      → IsOpen (after s piece) (n + length here)
  open_after here rest piece h split bytes within =
      let b : IsBetween s next.before (here ++ rest) = subst (IsBetween s next.before) split between_rows in record {
        inside = is.inside;
        small = is.small;
        apart = is.apart;
        before = next.before ++ here;
        rest = rest;
        between = between_after s next.before here rest piece b h bytes within;
        many = ap (λ k. k + length here) (sym number_is ∙ number_too) ∙ sym (length-append next.before here);
      }

  -- an element of the operation lies in the buffer
  pub inside_part : (here rest : List Entry) → elements_of_rows r ++ next.after ≡ here ++ rest → are_inside s.buf_len (shift s.origin here) ≡ true
  inside_part here rest split =
      let all : s.elements ≡ next.before ++ (here ++ rest) = next.all ∙ ap (λ es. next.before ++ es) split in
      let parts = ap (shift s.origin) all ∙ shift-append s.origin next.before (here ++ rest) ∙ ap (λ es. shift s.origin next.before ++ es) (shift-append s.origin here rest) in
      let two = inside_both s.buf_len (shift s.origin next.before) (shift s.origin here ++ shift s.origin rest) (ap (are_inside s.buf_len) (sym parts) ∙ is.inside) in
      (inside_both s.buf_len (shift s.origin here) (shift s.origin rest) two.1).0

  -- what a piece comes to that completes some elements
  pub takes : (here rest : List Entry) (piece : List ℕ) (h : ℕ) → elements_of_rows r ++ next.after ≡ here ++ rest → length s.held + length piece ≡ total s.rep here + h → AreHeld s.rep h rest
      → Takes s n piece here
  takes here rest piece h split bytes within =
      let b : IsBetween s next.before (here ++ rest) = subst (IsBetween s next.before) split between_rows in record {
        opens = open_after here rest piece h split bytes within;
        session = session_after s next.before here rest piece b h bytes within;
        buffer = λ old. set_completed s old piece ∙ ap (λ es. set_each s.rep (shift s.origin es) old (s.held ++ piece)) (completes s next.before here rest piece b h bytes within);
        inside = inside_part here rest split;
        enough = omega (arith, bytes);
        many = sym number_is;
      }

most_elements : (es : List Entry) → length es ≤ total Native es
most_elements [] = omega arith
most_elements (e ∷ es) =
    let rest = most_elements es in
    let some = native_size-pos e.kind in
    omega (arith, rest, some, sum_by-cons (λ (f : Entry). packed_size Native f.kind) e es)

pub number_of : (s : Session) (n : ℕ) → IsOpen s n → n ≡ complete s
number_of s n is = is.many ∙ sym (done_at s.rep s.elements is.before is.rest s.given (length s.held) is.between.all is.between.place is.between.within)

-- there are no more elements than bytes of the buffer
pub few_complete : (s : Session) (n : ℕ) → IsOpen s n → n ≤ 16777216
few_complete s n is =
    let most = most_elements is.before in
    let sum = ap (total Native) is.between.all ∙ total-append Native is.before is.rest in
    let moved = total-shift Native s.origin s.elements in
    let small = is.small in
    let many = is.many in
    elim (cases_lt s.buf_len (total Native (placed s))) [
      | inl more ↦ absurd (is.apart (overlaps_from_size s.buf_len (placed s) is.inside more))
      | inr few ↦ omega (arith, most, sum, moved, small, many, few)
    ]

-- the session after a piece, by its parts
module _ (s : Session) (n : ℕ) (piece : List ℕ) (here : List Entry) (t : Takes s n piece here) where
  pub model_after : (w : Walk) (bytes : ℕ) (held : List ℕ) → w ≡ further (walk_of s) bytes → bytes ≡ length piece → held ≡ drop (total s.rep here) (s.held ++ piece)
      → (let u : Session = record { rep = w.rep; elements = w.elements; origin = s.origin; buf_len = s.buf_len; one = s.one; given = w.position; held = held } in u) ≡ after s piece
  model_after w bytes held moved long left =
      ap (λ (v : Walk). (let u : Session = record { rep = v.rep; elements = v.elements; origin = s.origin; buf_len = s.buf_len; one = s.one; given = v.position; held = held } in u)) moved
      ∙ ap (λ k. (let u : Session = record s { given = s.given + k; held = held } in u)) long
      ∙ ap (λ h. (let u : Session = record s { given = s.given + length piece; held = h } in u)) left
      ∙ sym t.session

  -- the buffer after it, by what was set
  pub buffer_is : (rep : Rep) (x : ℤ) (images more old : List ℕ) → rep ≡ s.rep → x ≡ s.origin → images ++ more ≡ s.held ++ piece → total s.rep here ≤ length images
      → set_each rep (shift x here) old images ≡ buffer_after s old piece
  buffer_is rep x images more old reps origins bytes enough =
      ap (λ p. set_each p (shift x here) old images) reps ∙ ap (λ y. set_each s.rep (shift y here) old images) origins
      ∙ sym (set_front s.rep (shift s.origin here) old images more (subst (λ k. k ≤ length images) (sym (total-shift s.rep s.origin here)) enough))
      ∙ ap (set_each s.rep (shift s.origin here) old) bytes ∙ sym (t.buffer old)

packed_size-le : (rep : Rep) (kind : Kind) → packed_size rep kind ≤ 8
packed_size-le Native kind = native_size-le kind
packed_size-le External32 kind = external_size-le kind

few_held : (rep : Rep) (h : ℕ) (rest : List Entry) → AreHeld rep h rest → h ≤ 7
few_held rep h [] held = omega (arith, held)
few_held rep h (e ∷ rest) held = omega (arith, held, packed_size-le rep e.kind)

-- fewer bytes are held than an element can have
pub held_few : (s : Session) (n : ℕ) → IsOpen s n → length s.held ≤ 7
held_few s n is = few_held s.rep (length s.held) is.rest is.between.within
