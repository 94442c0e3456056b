-- What a piece does to a session, and two pieces one after the other.
use Rattle.std.specs.Prelude.{◌≡◌, ℕ, ◌+◌, ◌-◌, ◌≤◌, cond, suc, Bool, List, [], ◌∷◌, ◌++◌, take, drop, length}
use Rattle.std.proofs.Common.{inl, inr, refl, sym, ap, subst, ◌∙◌, arith, append-nil, append_assoc, length-append, length-drop}
use Rattle.std.proofs.lemmas.Bool.Decides.{leb_tells}
use Rattle.std.proofs.lemmas.List.{drop-drop, drop-map, drop_at, map-append, take-append-drop, take-map, take_at, length-take-le}
use Rattle.std.proofs.lemmas.List.Sums.{sum_by-cons}
use Rattle.dt_cursor.specs.Search.{AreHeld}
use Rattle.dt_elems.proofs.Receiving.{done-more}
use Rattle.dt_kinds.specs.declared.kind.Rep.{Rep}
use Rattle.dt_kinds.specs.Kind.{packed_size}
use Rattle.dt_map.specs.declared.entry.Entry.{Entry}
use Rattle.dt_map.specs.Packed.{total}
use Rattle.dt_map.specs.Setting.{done, set_one, set_each}
use Rattle.dt_map.specs.Typemap.{shift, shift_entry}
use Rattle.dt_map.proofs.Copies.{total-append, total-shift}
use Rattle.dt_map.proofs.Leading.{done_is_greatest}
use Rattle.dt_rows.proofs.Joined.{take_further}
use Rattle.dt_rows.proofs.SettingRows.{drop_none, set_append, two_pieces}
use Rattle.dt_unpack.specs.Session.{Session, total_of, complete, complete_with, completed, after, buffer_after, IsBetween}

-- where a session is between elements, those before are complete
none_done : (rep : Rep) (rest : List Entry) (h : ℕ) → AreHeld rep h rest → done rep rest h ≡ 0
none_done rep [] h held = refl
none_done rep (e ∷ rest) h held =
    let size = packed_size rep e.kind in
    elim (leb_tells size h) [
      | inl fits ↦ absurd (omega (arith, held, fits.1))
      | inr less ↦ ap (λ b. cond b (suc (done rep rest (h - size))) 0) less.0
    ]

pub done_at : (rep : Rep) (es before rest : List Entry) (n h : ℕ) → es ≡ before ++ rest → n ≡ total rep before + h → AreHeld rep h rest → done rep es n ≡ length before
done_at rep es before rest n h all place within =
    let left : n - total rep before ≡ h = omega (arith, place) in
    ap (λ xs. done rep xs n) all ∙ done-more rep before rest n (omega (arith, place))
    ∙ ap (λ k. length before + done rep rest k) left ∙ ap (λ k. length before + k) (none_done rep rest h within) ∙ (let none : length before + 0 ≡ length before = omega arith in none)

-- lists that are split at one place
pub front_of : (es before rest : List Entry) → es ≡ before ++ rest → take (length before) es ≡ before
front_of es before rest all = ap (take (length before)) all ∙ take_at before rest (length before) refl

pub back_of : (es before rest : List Entry) → es ≡ before ++ rest → drop (length before) es ≡ rest
back_of es before rest all = ap (drop (length before)) all ∙ drop_at before rest (length before) refl

-- a piece that completes some elements and then holds bytes of the next
module _ (s : Session) (before here rest : List Entry) (piece : List ℕ) (b : IsBetween s before (here ++ rest)) (h : ℕ)
    (bytes : length s.held + length piece ≡ total s.rep here + h) (within : AreHeld s.rep h rest) where
  whole : s.elements ≡ (before ++ here) ++ rest
  whole = b.all ∙ sym (append_assoc before here rest)

  pub were_complete : complete s ≡ length before
  were_complete = done_at s.rep s.elements before (here ++ rest) s.given (length s.held) b.all b.place b.within

  pub are_complete : complete_with s piece ≡ length before + length here
  are_complete =
      let place = b.place in
      done_at s.rep s.elements (before ++ here) rest (s.given + length piece) h whole (omega (arith, place, bytes, total-append s.rep before here)) within
      ∙ length-append before here

  pub completes : completed s piece ≡ here
  completes =
      let less : (length before + length here) - length before ≡ length here = omega arith in
      ap (λ k. take (k - complete s) (drop (complete s) s.elements)) are_complete
      ∙ ap (λ f. take ((length before + length here) - f) (drop f s.elements)) were_complete
      ∙ ap (λ k. take k (drop (length before) s.elements)) less
      ∙ ap (take (length here)) (back_of s.elements before (here ++ rest) b.all) ∙ take_at here rest (length here) refl

  pub session_after : after s piece ≡ record s { given = s.given + length piece; held = drop (total s.rep here) (s.held ++ piece) }
  session_after = ap (λ es. (let t : Session = record s { given = s.given + length piece; held = drop (total s.rep es) (s.held ++ piece) } in t)) completes

  pub between_after : IsBetween (after s piece) (before ++ here) rest
  between_after =
      let long : length (drop (total s.rep here) (s.held ++ piece)) ≡ h = omega (arith, length-drop (total s.rep here) (s.held ++ piece), length-append s.held piece, bytes) in
      let place = b.place in
      let t : Session = record s { given = s.given + length piece; held = drop (total s.rep here) (s.held ++ piece) } in
      let is : IsBetween t (before ++ here) rest = record {
        all = whole;
        place = omega (arith, place, bytes, long, total-append s.rep before here);
        within = subst (λ n. AreHeld s.rep n rest) (sym long) within;
      } in
      subst (λ u. IsBetween u (before ++ here) rest) (sym session_after) is

-- the elements that a piece completes, in the buffer
pub set_completed : (s : Session) (buffer piece : List ℕ) → buffer_after s buffer piece ≡ set_each s.rep (shift s.origin (completed s piece)) buffer (s.held ++ piece)
set_completed s buffer piece =
    let n : ℕ = complete_with s piece - complete s in
    ap (λ es. set_each s.rep es buffer (s.held ++ piece))
    (ap (take n) (drop-map (shift_entry s.origin) (complete s) s.elements) ∙ take-map (shift_entry s.origin) n (drop (complete s) s.elements))

-- bytes that aren't used
drop_front : (n : ℕ) (xs ys : List ℕ) → n ≤ length xs → drop n (xs ++ ys) ≡ drop n xs ++ ys
drop_front n xs ys within =
    ap (λ zs. drop n (zs ++ ys)) (sym (take-append-drop n xs)) ∙ ap (drop n) (append_assoc (take n xs) (drop n xs) ys)
    ∙ drop_at (take n xs) (drop n xs ++ ys) n (length-take-le n xs within)

take_front : (n : ℕ) (xs ys : List ℕ) → n ≤ length xs → take n (xs ++ ys) ≡ take n xs
take_front n xs ys within =
    ap (λ zs. take n (zs ++ ys)) (sym (take-append-drop n xs)) ∙ ap (take n) (append_assoc (take n xs) (drop n xs) ys)
    ∙ take_at (take n xs) (drop n xs ++ ys) n (length-take-le n xs within)

pub set_front : (rep : Rep) (es : List Entry) (buffer images more : List ℕ) → total rep es ≤ length images → set_each rep es buffer (images ++ more) ≡ set_each rep es buffer images
set_front rep [] buffer images more enough = refl
set_front rep (e ∷ es) buffer images more enough =
    let size = packed_size rep e.kind in
    let sum = sum_by-cons (λ (f : Entry). packed_size rep f.kind) e es in
    ap (λ bytes. set_each rep es (set_one rep e buffer bytes) (drop size (images ++ more))) (take_front size images more (omega (arith, sum, enough)))
    ∙ ap (set_each rep es (set_one rep e buffer (take size images))) (drop_front size images more (omega (arith, sum, enough)))
    ∙ set_front rep es (set_one rep e buffer (take size images)) (drop size images) more (omega (arith, sum, enough, length-drop size images))

-- with more bytes, no fewer elements are complete
done_rises : (rep : Rep) (es : List Entry) (n m : ℕ) → n ≤ m → done rep es n ≤ done rep es m
done_rises rep es n m le =
    let here = done_is_greatest rep es n in
    (done_is_greatest rep es m).2 (done rep es n) here.0 (let fits = here.1 in omega (arith, fits, le))

-- of the element at which bytes end, fewer are there than it has
held_at : (rep : Rep) (es : List Entry) (n : ℕ) → n ≤ total rep es → AreHeld rep (n - total rep (take (done rep es n) es)) (drop (done rep es n) es)
held_at rep [] n fits = omega (arith, fits)
held_at rep (e ∷ es) n fits =
    let size = packed_size rep e.kind in
    let sum = sum_by-cons (λ (f : Entry). packed_size rep f.kind) e es in
    let Is : Bool → Type 0 = λ b. (let d = cond b (suc (done rep es (n - size))) 0 in AreHeld rep (n - total rep (take d (e ∷ es))) (drop d (e ∷ es))) in
    elim (leb_tells size n) [
      | inl there ↦
          let d = done rep es (n - size) in
          let rest = sum_by-cons (λ (f : Entry). packed_size rep f.kind) e (take d es) in
          let left : (n - size) - total rep (take d es) ≡ n - total rep (e ∷ take d es) = omega (arith, rest, there.1) in
          subst Is (sym there.0) (subst (λ h. AreHeld rep h (drop d es)) left (held_at rep es (n - size) (omega (arith, fits, sum))))
      | inr less ↦ subst Is (sym less.0) (omega (arith, less.1))
    ]

-- the elements that are complete with a piece: those before, and those that it completes
total_parts : (s : Session) (before rest : List Entry) (b : IsBetween s before rest) (piece : List ℕ)
    → total s.rep (take (complete_with s piece) s.elements) ≡ total s.rep before + total s.rep (completed s piece)
total_parts s before rest b piece =
    let f : ℕ = complete s in
    let g : ℕ = complete_with s piece in
    let few = done_rises s.rep s.elements s.given (s.given + length piece) (omega arith) in
    let there : f + (g - f) ≡ g = omega (arith, few) in
    let first : take f s.elements ≡ before = ap (λ n. take n s.elements) (done_at s.rep s.elements before rest s.given (length s.held) b.all b.place b.within) ∙ front_of s.elements before rest b.all in
    ap (total s.rep) (ap (λ n. take n s.elements) (sym there) ∙ sym (two_pieces s.elements f (g - f)) ∙ ap (λ es. es ++ completed s piece) first)
    ∙ total-append s.rep before (completed s piece)

-- two pieces, one after the other, do what they do joined
module _ (s : Session) (before rest : List Entry) (b : IsBetween s before rest) (p q : List ℕ) where
  abbrev middle : Session
  middle = after s p

  few : complete s ≤ complete_with s p
  few = done_rises s.rep s.elements s.given (s.given + length p) (omega arith)

  more : complete_with s p ≤ complete_with middle q
  more = done_rises s.rep s.elements (s.given + length p) ((s.given + length p) + length q) (omega arith)

  given_both : (s.given + length p) + length q ≡ s.given + length (p ++ q)
  given_both = omega (arith, length-append p q)

  complete_both : complete_with middle q ≡ complete_with s (p ++ q)
  complete_both = ap (done s.rep s.elements) given_both

  pub completed_both : completed s (p ++ q) ≡ completed s p ++ completed middle q
  completed_both =
      let f : ℕ = complete s in
      let g : ℕ = complete_with s p in
      let k : ℕ = complete_with middle q in
      let sum : (g - f) + (k - g) ≡ k - f = omega (arith, few, more) in
      let there : f + (g - f) ≡ g = omega (arith, few) in
      ap (λ m. take (m - f) (drop f s.elements)) (sym complete_both)
      ∙ ap (λ n. take n (drop f s.elements)) (sym sum) ∙ sym (take_further s.elements f (g - f) (k - g))
      ∙ ap (λ m. completed s p ++ take (k - g) (drop m s.elements)) there

  -- the images of what the first completes are there
  pub enough : total s.rep (completed s p) ≤ length (s.held ++ p)
  enough =
      let fits = (done_is_greatest s.rep s.elements (s.given + length p)).1 in
      let bytes = total_parts s before rest b p in
      let place = b.place in
      omega (arith, fits, bytes, place, length-append s.held p)

  bytes_left : drop (total s.rep (completed s p)) (s.held ++ (p ++ q)) ≡ drop (total s.rep (completed s p)) (s.held ++ p) ++ q
  bytes_left = ap (drop (total s.rep (completed s p))) (sym (append_assoc s.held p q)) ∙ drop_front (total s.rep (completed s p)) (s.held ++ p) q enough

  pub after_both : after middle q ≡ after s (p ++ q)
  after_both =
      let first : ℕ = total s.rep (completed s p) in
      let second : ℕ = total s.rep (completed middle q) in
      let held : drop second (drop first (s.held ++ p) ++ q) ≡ drop (total s.rep (completed s (p ++ q))) (s.held ++ (p ++ q)) =
      ap (drop second) (sym bytes_left) ∙ drop-drop second first (s.held ++ (p ++ q))
      ∙ ap (λ n. drop n (s.held ++ (p ++ q))) (sym (ap (total s.rep) completed_both ∙ total-append s.rep (completed s p) (completed middle q))) in
      ap (λ n. (let t : Session = record s { given = n; held = drop second (drop first (s.held ++ p) ++ q) } in t)) given_both
      ∙ ap (λ h. (let t : Session = record s { given = s.given + length (p ++ q); held = h } in t)) held

  pub buffer_both : (buffer : List ℕ) → buffer_after middle (buffer_after s buffer p) q ≡ buffer_after s buffer (p ++ q)
  buffer_both buffer =
      let x = s.origin in
      let first = completed s p in
      let second = completed middle q in
      let images = s.held ++ (p ++ q) in
      let set_first : set_each s.rep (shift x first) buffer images ≡ buffer_after s buffer p =
      ap (set_each s.rep (shift x first) buffer) (sym (append_assoc s.held p q))
      ∙ set_front s.rep (shift x first) buffer (s.held ++ p) q (subst (λ n. n ≤ length (s.held ++ p)) (sym (total-shift s.rep x first)) enough)
      ∙ sym (set_completed s buffer p) in
      set_completed middle (buffer_after s buffer p) q
      ∙ ap (set_each s.rep (shift x second) (buffer_after s buffer p)) (sym bytes_left)
      ∙ ap (λ n. set_each s.rep (shift x second) (buffer_after s buffer p) (drop n images)) (sym (total-shift s.rep x first))
      ∙ ap (λ c. set_each s.rep (shift x second) c (drop (total s.rep (shift x first)) images)) (sym set_first)
      ∙ sym (set_append s.rep (shift x first) (shift x second) buffer images)
      ∙ ap (λ es. set_each s.rep es buffer images) (sym (ap (shift x) completed_both ∙ map-append (shift_entry x) first second))
      ∙ sym (set_completed s buffer (p ++ q))

-- one more piece
pub more_given : (s : Session) (before rest : List Entry) (b : IsBetween s before rest) (p q joined old mid new : List ℕ) (t u : Session)
    → t ≡ after s p → mid ≡ buffer_after s old p → u ≡ after t q → new ≡ buffer_after t mid q → p ++ q ≡ joined
    → (u ≡ after s joined) × (new ≡ buffer_after s old joined)
more_given s before rest b p q joined old mid new t u first set_first second set_second same = (
  second ∙ ap (λ v. after v q) first ∙ after_both s before rest b p q ∙ ap (after s) same,
  set_second ∙ ap (λ m. buffer_after t m q) set_first ∙ ap (λ v. buffer_after v (buffer_after s old p) q) first ∙ buffer_both s before rest b p q old ∙ ap (buffer_after s old) same,
)

-- how many elements a piece completes
pub completes_more : (s : Session) (piece : List ℕ) → complete s ≤ complete_with s piece
completes_more s piece = done_rises s.rep s.elements s.given (s.given + length piece) (omega arith)

pub completed_count : (s : Session) (piece : List ℕ) → complete_with s piece - complete s ≡ length (completed s piece)
completed_count s piece =
    let most = (done_is_greatest s.rep s.elements (s.given + length piece)).0 in
    sym (length-take-le (complete_with s piece - complete s) (drop (complete s) s.elements) (omega (arith, most, length-drop (complete s) s.elements)))

-- after any piece that isn't too long, a session is between elements
pub between_any : (s : Session) (before rest : List Entry) (b : IsBetween s before rest) (piece : List ℕ) → s.given + length piece ≤ total_of s
    → (front : List Entry) × (back : List Entry) × IsBetween (after s piece) front back
between_any s before rest b piece fits =
    let k : ℕ = complete_with s piece in
    let front = take k s.elements in
    let back = drop k s.elements in
    let most = (done_is_greatest s.rep s.elements (s.given + length piece)).1 in
    let bytes = total_parts s before rest b piece in
    let place = b.place in
    let left : length (drop (total s.rep (completed s piece)) (s.held ++ piece)) ≡ (s.given + length piece) - total s.rep front =
    omega (arith, length-drop (total s.rep (completed s piece)) (s.held ++ piece), length-append s.held piece, bytes, place) in (
      front,
      back,
      record {
        all = sym (take-append-drop k s.elements);
        place = omega (arith, most, left);
        within = subst (λ h. AreHeld s.rep h back) (sym left) (held_at s.rep s.elements (s.given + length piece) fits);
      },
    )

-- no bytes complete nothing, and leave session and buffer as they are
pub completed_nothing : (s : Session) → completed s [] ≡ []
completed_nothing s =
    let same : s.given + 0 ≡ s.given = omega arith in
    let none : complete_with s [] - complete s ≡ 0 =
    ap (λ n. done s.rep s.elements n - complete s) same ∙ (let f : ℕ = complete s in let gone : f - f ≡ 0 = omega arith in gone) in
    ap (λ n. take n (drop (complete s) s.elements)) none

pub after_nothing : (s : Session) → after s [] ≡ s
after_nothing s =
    let same : s.given + 0 ≡ s.given = omega arith in
    let held : drop (total s.rep (completed s [])) (s.held ++ []) ≡ s.held =
    ap (λ es. drop (total s.rep es) (s.held ++ [])) (completed_nothing s) ∙ drop_none (s.held ++ []) ∙ append-nil s.held in
    ap (λ n. (let t : Session = record s { given = n; held = drop (total s.rep (completed s [])) (s.held ++ []) } in t)) same
    ∙ ap (λ h. (let t : Session = record s { held = h } in t)) held

pub buffer_nothing : (s : Session) (buffer : List ℕ) → buffer_after s buffer [] ≡ buffer
buffer_nothing s buffer = set_completed s buffer [] ∙ ap (λ es. set_each s.rep (shift s.origin es) buffer (s.held ++ [])) (completed_nothing s)

-- no more bytes were given than there are
held_within : (rep : Rep) (h : ℕ) (rest : List Entry) → AreHeld rep h rest → h ≤ total rep rest
held_within rep h [] held = omega (arith, held)
held_within rep h (e ∷ rest) held = omega (arith, held, sum_by-cons (λ (f : Entry). packed_size rep f.kind) e rest)

pub given_within : (s : Session) (before rest : List Entry) → IsBetween s before rest → s.given ≤ total_of s
given_within s before rest b =
    let all = ap (total s.rep) b.all in
    let place = b.place in
    omega (arith, all, place, total-append s.rep before rest, held_within s.rep (length s.held) rest b.within)
