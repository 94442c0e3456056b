-- More of the next bytes are taken from one side, given to the other, or copied.
use borrow.Rule.Slice.PartMut.{put_mid}
use Rattle.std.proofs.Common.{◌≡◌, ℕ, ◌+◌, ◌-◌, ◌*◌, ◌≤◌, true, pos, List, ◌++◌, take, drop, length, sym, ap, ◌∙◌, arith, append_assoc, length-append, length-drop}
use Rattle.std.proofs.lemmas.Grind.{flat_map-append}
use Rattle.std.proofs.lemmas.List.{drop-drop, drop_at, length-take-le, take_all, take_at}
use Rattle.dt_kinds.specs.declared.kind.Rep.TheVariants.{Native}
use Rattle.dt_kinds.specs.Image.{image}
use Rattle.dt_map.specs.declared.entry.Entry.{Entry}
use Rattle.dt_map.specs.Elements.{are_inside}
use Rattle.dt_map.specs.Packed.{bytes_at, packed, total}
use Rattle.dt_map.specs.Setting.{set_each}
use Rattle.dt_map.specs.Typemap.{shift}
use Rattle.dt_map.proofs.Likeness.{shift-zero}
use Rattle.dt_map.proofs.Writing.{packed_has_total}
use Rattle.dt_rows.specs.declared.rows.Rows.{Rows}
use Rattle.dt_rows.specs.Rows.{elements_of_rows, bytes_in, packed_rows}
use Rattle.dt_rows.proofs.Filling.{last_written}
use Rattle.dt_rows.proofs.Joined.{take_further}
use Rattle.dt_rows.proofs.SettingRows.{drop_none, rest_of, set_append, two_pieces}
use Rattle.dt_rows.proofs.Totals.{total_of_rows}
use Rattle.dt_copy.specs.Copied.{copied}
use Rattle.dt_copy.specs.Side as side
use Rattle.dt_copy.specs.Side.{Reader, AreNextBytes, IsReader, at_byte, onward, bytes_of, next_bytes, to_come}
use Rattle.dt_copy.proofs.Bytes.{copied_append}
use Rattle.dt_copy.proofs.Elements.{copied_sets}
use Rattle.dt_copy.proofs.Named.{all_drop, all_of_bytes, all_take, bytes_alike, bytes_inside, inside_piece, total_of_bytes}

packed-append : (es fs : List Entry) (buffer : List ℕ) → packed Native (es ++ fs) buffer ≡ packed Native es buffer ++ packed Native fs buffer
packed-append es fs buffer = flat_map-append (λ e. image Native e.kind (bytes_at buffer e)) es fs

-- the next bytes, and those after them
pub next_more : (r : Reader) (buffer : List ℕ) (n m : ℕ) → next_bytes r buffer n ++ next_bytes (onward r n) buffer m ≡ next_bytes r buffer (n + m)
next_more r buffer n m =
    let all = bytes_of r.elements in
    sym (packed-append (take n (drop r.position all)) (take m (drop (r.position + n) all)) buffer) ∙ ap (λ es. packed Native es buffer) (take_further all r.position n m)

pub moved_more : (r now then : Reader) (count n : ℕ) → now ≡ onward r count → then ≡ onward now n → then ≡ onward r (count + n)
moved_more r now then count n first second =
    second ∙ ap (λ q. onward q n) first ∙ ap (at_byte r) (let more : (r.position + count) + n ≡ r.position + (count + n) = omega arith in more)

pub to_come_more : (r now : Reader) (count n : ℕ) → now ≡ onward r count → count ≤ side.rest_of r → n ≤ side.rest_of now → count + n ≤ side.rest_of r
to_come_more r now count n moved some more = let left = ap side.rest_of moved in omega (arith, left, some, more)

pub within_more : (old mid : List ℕ) (count n : ℕ) → length mid ≡ length old → count ≤ length old → n ≤ length (take (length mid - count) (drop count mid)) → count + n ≤ length old
within_more old mid count n same some more = omega (arith, same, some, more, length-take-le (length mid - count) (drop count mid) (omega (arith, length-drop count mid)))

-- what rows give that come next
module _ (r : Reader) (rows : Rows) (next : AreNextBytes r rows) where
  named_total : total Native (elements_of_rows rows) ≡ bytes_in rows
  named_total = total_of_rows Native rows ∙ ap (λ n. rows.rows * n) (sym next.whole.1)

  pub rows_lie : (buffer : List ℕ) → length buffer ≡ r.len → are_inside (length buffer) (shift (pos 0) (elements_of_rows rows)) ≡ true
  rows_lie buffer same =
      ap (are_inside (length buffer)) (shift-zero (elements_of_rows rows)) ∙ ap (λ n. are_inside n (elements_of_rows rows)) same ∙ next.inside

  pub rows_gathered : (buffer : List ℕ) → length buffer ≡ r.len → packed_rows Native rows (pos 0) buffer ≡ next_bytes r buffer (bytes_in rows)
  rows_gathered buffer same =
      let here = elements_of_rows rows in
      let inside : are_inside (length buffer) here ≡ true = ap (λ n. are_inside n here) same ∙ next.inside in
      let long = packed_has_total Native here buffer inside ∙ named_total in
      ap (λ es. take (bytes_in rows) (drop rows.run.skip (packed Native es buffer))) (shift-zero here)
      ∙ ap (λ k. take (bytes_in rows) (drop k (packed Native here buffer))) next.whole.0
      ∙ ap (take (bytes_in rows)) (drop_none (packed Native here buffer))
      ∙ take_all (bytes_in rows) (packed Native here buffer) (omega (arith, long))
      ∙ ap (λ es. packed Native es buffer) (sym next.bytes)

  pub rows_scattered : (buffer piece : List ℕ) → set_each Native (shift (pos 0) (elements_of_rows rows)) buffer piece ≡ set_each Native (take (bytes_in rows) (to_come r)) buffer piece
  rows_scattered buffer piece = ap (λ es. set_each Native es buffer piece) (shift-zero (elements_of_rows rows) ∙ sym next.bytes)

-- a piece of the next bytes after others
pub taken_more : (r now : Reader) (buffer old mid new : List ℕ) (count n : ℕ) → now ≡ onward r count
    → mid ≡ next_bytes r buffer count ++ drop count old → length mid ≡ length old → count ≤ length mid
    → new ≡ next_bytes now buffer n ++ drop n (take (length mid - count) (drop count mid))
    → put_mid count (length mid - count) mid new ≡ next_bytes r buffer (count + n) ++ drop (count + n) old
taken_more r now buffer old mid new count n moved is same room put =
    let before = next_bytes r buffer count in
    let here = next_bytes (onward r count) buffer n in
    let front : length before ≡ count =
    (let parts = ap length is in omega (arith, parts, same, room, length-append before (drop count old), length-drop count old)) in
    let later : take (length mid - count) (drop count mid) ≡ drop count old = rest_of mid count ∙ ap (drop count) is ∙ drop_at before (drop count old) count front in
    last_written before old mid new count (length mid - count) is front (omega (arith, same, room))
    ∙ ap (λ t. before ++ t) (put ∙ ap (λ t. next_bytes t buffer n ++ drop n (take (length mid - count) (drop count mid))) moved
    ∙ ap (λ t. here ++ t) (ap (drop n) later ∙ drop-drop n count old))
    ∙ sym (append_assoc before here (drop (count + n) old))
    ∙ ap (λ t. t ++ drop (count + n) old) (next_more r buffer count n)

-- as many bytes as are taken
taken_are_bytes : (r : Reader) (n : ℕ) → n ≤ side.rest_of r → total Native (take n (to_come r)) ≡ n
taken_are_bytes r n few =
    let come = to_come r in
    total_of_bytes (take n come) (all_take n come (all_drop r.position (bytes_of r.elements) (all_of_bytes r.elements)))
    ∙ length-take-le n come (omega (arith, few, length-drop r.position (bytes_of r.elements)))

-- a piece is written behind others
pub given_more : (r now : Reader) (old mid new piece : List ℕ) (count n : ℕ) → now ≡ onward r count → count ≤ side.rest_of r
    → mid ≡ set_each Native (take count (to_come r)) old piece
    → new ≡ set_each Native (take n (to_come now)) mid (take (length piece - count) (drop count piece))
    → new ≡ set_each Native (take (count + n) (to_come r)) old piece
given_more r now old mid new piece count n moved few before put =
    let come = to_come r in
    put
    ∙ ap (λ q. set_each Native (take n (to_come q)) mid (take (length piece - count) (drop count piece))) moved
    ∙ ap (λ es. set_each Native (take n es) mid (take (length piece - count) (drop count piece))) (sym (drop-drop count r.position (bytes_of r.elements)))
    ∙ ap (set_each Native (take n (drop count come)) mid) (rest_of piece count)
    ∙ ap (λ b. set_each Native (take n (drop count come)) b (drop count piece)) before
    ∙ ap (λ k. set_each Native (take n (drop count come)) (set_each Native (take count come) old piece) (drop k piece)) (sym (taken_are_bytes r count few))
    ∙ sym (set_append Native (take count come) (take n (drop count come)) old piece)
    ∙ ap (λ es. set_each Native es old piece) (two_pieces come count n)

module _ (from to : Reader) (n : ℕ) (few : n ≤ side.rest_of from) (room : side.rest_of from ≤ side.rest_of to) (source : List ℕ) (same : length source ≡ from.len) (inside : are_inside from.len from.elements ≡ true) where
  abbrev here : List Entry
  here = take n (to_come from)

  abbrev there : List Entry
  there = to_come to

  source_inside : are_inside (length source) here ≡ true
  source_inside = ap (λ k. are_inside k here) same ∙ inside_piece from.len n from.position (bytes_of from.elements) (bytes_inside from.len from.elements inside)

  pub length-taken : length (next_bytes from source n) ≡ n
  length-taken = packed_has_total Native here source source_inside ∙ taken_are_bytes from n few

  -- what is taken from one side and given to the other is copied
  pub piece_copied : (piece new target after : List ℕ) → piece ≡ next_bytes from source n ++ drop n new
      → after ≡ set_each Native (take (length (take n piece)) there) target (take n piece)
      → after ≡ copied here there source target
  piece_copied piece new target after taken given =
      let part : take n piece ≡ next_bytes from source n = ap (take n) taken ∙ take_at (next_bytes from source n) (drop n new) n length-taken in
      let long : length here ≡ n = length-take-le n (to_come from) (omega (arith, few, length-drop from.position (bytes_of from.elements))) in
      let all_here = all_take n (to_come from) (all_drop from.position (bytes_of from.elements) (all_of_bytes from.elements)) in
      let all_there = all_drop to.position (bytes_of to.elements) (all_of_bytes to.elements) in
      let fewer : length here ≤ length there = omega (arith, long, few, room, length-drop to.position (bytes_of to.elements)) in
      given
      ∙ ap (λ p. set_each Native (take (length p) there) target p) part
      ∙ ap (λ k. set_each Native (take k there) target (next_bytes from source n)) (length-taken ∙ sym long)
      ∙ sym (copied_sets here there source target (bytes_alike here there all_here all_there fewer) source_inside)

-- a piece more is copied
pub piece_more : (from side now : Reader) (to : List Entry) (p n : ℕ) (s old mid new : List ℕ) → now ≡ at_byte from p → p ≤ length (bytes_of from.elements)
    → mid ≡ copied (take p (bytes_of from.elements)) to s old → to_come side ≡ drop p to
    → new ≡ copied (take n (to_come now)) (to_come side) s mid
    → new ≡ copied (take (p + n) (bytes_of from.elements)) to s old
piece_more from side now to p n s old mid new is within before there put =
    let all = bytes_of from.elements in
    let a = take p all in
    let b = take n (drop p all) in
    let long : length a ≡ p = length-take-le p all within in
    put
    ∙ ap (λ q. copied (take n (to_come q)) (to_come side) s mid) is
    ∙ ap (λ es. copied b es s mid) there
    ∙ ap (copied b (drop p to) s) before
    ∙ ap (λ k. copied b (drop k to) s (copied a to s old)) (sym long)
    ∙ sym (copied_append a b to s old)
    ∙ ap (λ es. copied es to s old) (two_pieces all p n)
