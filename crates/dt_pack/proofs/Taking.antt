-- The packed bytes that come next of elements, by the rows that a walk names.
use borrow.Rule.Slice.PartMut.{put_mid}
use Rattle.std.proofs.Common.{refl, min, ◌≡◌, ℕ, ◌+◌, ◌-◌, ◌≤◌, ◌<◌, true, ℤ, List, ◌++◌, take, drop, length, [], sym, ap, ◌∙◌, arith, append-nil, append_assoc, length-append, length-drop}
use Rattle.std.proofs.lemmas.Bool.{and_parts}
use Rattle.std.proofs.lemmas.Grind.{flat_map-append}
use Rattle.std.proofs.lemmas.List.{take-append-le, drop-append-le, drop_all, take_all, take_at, drop_at, drop-drop, length-take-le}
use Rattle.std.proofs.lemmas.List.Folds.{list_all-append}
use Rattle.std.proofs.Math.Seq.{drop-append-add}
use Rattle.dt_cursor.specs.Walk.{Walk, AreNext}
use Rattle.dt_kinds.specs.declared.kind.Rep.{Rep}
use Rattle.dt_kinds.specs.Image.{image}
use Rattle.dt_map.specs.declared.entry.Entry.{Entry}
use Rattle.dt_map.specs.Elements.{are_inside, lies_inside}
use Rattle.dt_map.specs.Packed.{bytes_at, packed, total}
use Rattle.dt_map.specs.Typemap.{shift}
use Rattle.dt_map.proofs.Copies.{total-append, total-shift}
use Rattle.dt_map.proofs.Placings.{shift-append}
use Rattle.dt_map.proofs.Writing.{packed_has_total}
use Rattle.dt_pack.specs.Laws.{TakesAreJoined}
use Rattle.dt_pack.specs.Session.{Session, IsLimited, placed, total_of, rest_of, next_bytes, after, at_byte, walk_of}
use Rattle.dt_rows.specs.declared.rows.Rows.{Rows}
use Rattle.dt_rows.specs.Rows.{elements_of_rows, bytes_in, packed_rows}
use Rattle.dt_rows.proofs.Filling.{last_written}
use Rattle.dt_rows.proofs.Joined.{take_further}
use Rattle.dt_rows.proofs.SettingRows.{drop_none}
use Rattle.dt_rows.proofs.Totals.{bytes_within, some_bytes}

packed-append : (rep : Rep) (es fs : List Entry) (buffer : List ℕ) → packed rep (es ++ fs) buffer ≡ packed rep es buffer ++ packed rep fs buffer
packed-append rep es fs buffer = flat_map-append (λ e. image rep e.kind (bytes_at buffer e)) es fs

inside-append : (len : ℕ) (es fs : List Entry) → are_inside len (es ++ fs) ≡ true → (are_inside len es ≡ true) × (are_inside len fs ≡ true)
inside-append len es fs all = and_parts (are_inside len es) (are_inside len fs) (sym (list_all-append (lies_inside len) es fs) ∙ all)

module _ (w : Walk) (r : Rows) (next : AreNext w r) where
  rows : List Entry
  rows = elements_of_rows r

  -- rows that come next name bytes that are still to come
  pub still_to_come : w.position + bytes_in r ≤ total w.rep w.elements
  still_to_come =
      let all = ap (total w.rep) next.all in
      let parts = total-append w.rep next.before (elements_of_rows r ++ next.after) in
      let more = total-append w.rep (elements_of_rows r) next.after in
      let within = bytes_within w.rep r next.shape in
      omega (arith, all, parts, more, within, next.place)

  pub some_to_come : 0 < bytes_in r
  some_to_come = some_bytes w.rep r next.shape

  module _ (origin : ℤ) (buffer : List ℕ) (inside : are_inside (length buffer) (shift origin w.elements) ≡ true) where
    parts_inside : (are_inside (length buffer) (shift origin next.before) ≡ true) × (are_inside (length buffer) (shift origin (elements_of_rows r) ++ shift origin next.after) ≡ true)
    parts_inside =
        let parts = ap (shift origin) next.all ∙ shift-append origin next.before (elements_of_rows r ++ next.after)
        ∙ ap (λ s. shift origin next.before ++ s) (shift-append origin (elements_of_rows r) next.after) in
        inside-append (length buffer) (shift origin next.before) (shift origin (elements_of_rows r) ++ shift origin next.after)
        (ap (are_inside (length buffer)) (sym parts) ∙ inside)

    pub rows_inside : are_inside (length buffer) (shift origin (elements_of_rows r)) ≡ true
    rows_inside = (inside-append (length buffer) (shift origin (elements_of_rows r)) (shift origin next.after) parts_inside.1).0

    -- the next bytes are those that the rows name
    pub next_are_packed : take (bytes_in r) (drop w.position (packed w.rep (shift origin w.elements) buffer)) ≡ packed_rows w.rep r origin buffer
    next_are_packed =
        let before = shift origin next.before in
        let here = shift origin (elements_of_rows r) in
        let later = shift origin next.after in
        let parts = ap (shift origin) next.all ∙ shift-append origin next.before (elements_of_rows r ++ next.after)
        ∙ ap (λ s. before ++ s) (shift-append origin (elements_of_rows r) next.after) in
        let a = packed w.rep before buffer in
        let b = packed w.rep here buffer in
        let c = packed w.rep later buffer in
        let bytes : packed w.rep (shift origin w.elements) buffer ≡ a ++ (b ++ c) =
        ap (λ es. packed w.rep es buffer) parts ∙ packed-append w.rep before (here ++ later) buffer ∙ ap (λ s. a ++ s) (packed-append w.rep here later buffer) in
        let long = packed_has_total w.rep before buffer parts_inside.0 ∙ total-shift w.rep origin next.before in
        let wide = packed_has_total w.rep here buffer rows_inside ∙ total-shift w.rep origin (elements_of_rows r) in
        let within = bytes_within w.rep r next.shape in
        let place : w.position ≡ length a + r.run.skip = omega (arith, next.place, long) in
        ap (λ s. take (bytes_in r) (drop w.position s)) bytes
        ∙ ap (λ n. take (bytes_in r) (drop n (a ++ (b ++ c)))) place
        ∙ ap (take (bytes_in r)) (drop-append-add a (b ++ c) r.run.skip ∙ drop-append-le r.run.skip b c (omega (arith, wide, within)))
        ∙ take-append-le (bytes_in r) (drop r.run.skip b) c (omega (arith, wide, within, length-drop r.run.skip b))

-- what a session gives by rows that come next
pub record Gives (s : Session) (r : Rows) (buffer : List ℕ) : Type 0 where
  pub some : 0 < bytes_in r
  pub to_come : s.position + bytes_in r ≤ total_of s
  pub bytes : next_bytes s buffer (bytes_in r) ≡ packed_rows s.rep r s.origin buffer

pub gives_rows : (s : Session) (r : Rows) (buffer : List ℕ) → AreNext (walk_of s) r → IsLimited s → length buffer ≡ s.buf_len → Gives s r buffer
gives_rows s r buffer next limited same = record {
  some = some_to_come (walk_of s) r next;
  to_come = still_to_come (walk_of s) r next;
  bytes = next_are_packed (walk_of s) r next s.origin buffer (ap (λ n. are_inside n (placed s)) same ∙ limited.inside);
}

-- a piece of the next bytes after others
pub taken_more : (s now : Session) (buffer old mid new : List ℕ) (count n : ℕ) → now ≡ after s count
    → mid ≡ next_bytes s buffer count ++ drop count old → length mid ≡ length old → count ≤ length mid
    → new ≡ next_bytes now buffer n ++ drop n (take (length mid - count) (drop count mid))
    → put_mid count (length mid - count) mid new ≡ next_bytes s buffer (count + n) ++ drop (count + n) old
taken_more s now buffer old mid new count n moved is same room put =
    let before = next_bytes s buffer count in
    let here = next_bytes (after s count) buffer n in
    let front : length before ≡ count =
    (let parts = ap length is in omega (arith, parts, same, room, length-append before (drop count old), length-drop count old)) in
    let later : take (length mid - count) (drop count mid) ≡ drop count old =
    take_all (length mid - count) (drop count mid) (omega (arith, length-drop count mid)) ∙ ap (drop count) is ∙ drop_at before (drop count old) count front in
    last_written before old mid new count (length mid - count) is front (omega (arith, same, room))
    ∙ ap (λ t. before ++ t) (put ∙ ap (λ t. next_bytes t buffer n ++ drop n (take (length mid - count) (drop count mid))) moved
    ∙ ap (λ t. here ++ t) (ap (drop n) later ∙ drop-drop n count old))
    ∙ sym (append_assoc before here (drop (count + n) old))
    ∙ ap (λ t. t ++ drop (count + n) old) (take_further (packed s.rep (placed s) buffer) s.position count n)

pub moved_more : (s now then : Session) (count n : ℕ) → now ≡ after s count → then ≡ after now n → then ≡ after s (count + n)
moved_more s now then count n first second =
    second ∙ ap (λ t. after t n) first ∙ ap (at_byte s) (let more : (s.position + count) + n ≡ s.position + (count + n) = omega arith in more)

pub to_come_more : (s now : Session) (count n : ℕ) → now ≡ after s count → count ≤ rest_of s → n ≤ rest_of now → count + n ≤ rest_of s
to_come_more s now count n moved some more = let left = ap rest_of moved in omega (arith, left, some, more)

pub within_more : (old mid : List ℕ) (count n : ℕ) → length mid ≡ length old → count ≤ length old → n ≤ length (take (length mid - count) (drop count mid)) → count + n ≤ length old
within_more old mid count n same some more = omega (arith, same, some, more, length-take-le (length mid - count) (drop count mid) (omega (arith, length-drop count mid)))

-- a take of all packed bytes
pub whole_taken : (s : Session) (buffer old new items : List ℕ) (n len : ℕ) → are_inside (length buffer) (placed s) ≡ true → s.position ≡ 0 → length old ≡ total_of s → len ≡ total_of s
    → n ≡ min (length old) (rest_of s) → new ≡ next_bytes s buffer n ++ drop n old → length new ≡ len → take len (new ++ drop (length new) items) ≡ packed s.rep (placed s) buffer
whole_taken s buffer old new items n len inside start room all count bytes long =
    let images = packed s.rep (placed s) buffer in
    let total_is = packed_has_total s.rep (placed s) buffer inside ∙ total-shift s.rep s.origin s.elements in
    let whole : n ≡ total_of s = omega (arith, count, room, start) in
    let rest : drop n old ≡ [] = drop_all n old (omega (arith, whole, room)) in
    let first : next_bytes s buffer n ≡ images =
    ap (λ p. take n (drop p images)) start ∙ ap (take n) (drop_none images) ∙ take_all n images (omega (arith, total_is, whole)) in
    take_at new (drop (length new) items) len long
    ∙ bytes ∙ ap (λ t. next_bytes s buffer n ++ t) rest ∙ append-nil (next_bytes s buffer n) ∙ first

-- takes, one after another
pub takes_are_joined : TakesAreJoined
takes_are_joined s buffer m n = (take_further (packed s.rep (placed s) buffer) s.position m n, moved_more s (after s m) (after (after s m) n) m n refl refl)
