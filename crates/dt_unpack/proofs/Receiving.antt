-- The laws of unpack sessions.
use Rattle.std.specs.Prelude.{◌≡◌, ℕ, zero, suc, ◌+◌, ◌-◌, ◌<◌, ◌≤◌, pos, nat_abs, slice_index, slice_index_or, List, [], ◌∷◌, ◌++◌, take, drop, length, get_or}
use Rattle.std.specs.List.{flat_map}
use Rattle.std.proofs.Common.{true, ◌&&◌, inl, inr, refl, sym, ap, subst, ◌∙◌, arith, append-nil, length-append, length-drop}
use Rattle.std.proofs.Math.Seq.{drop-append-add}
use Rattle.std.proofs.lemmas.Bool.{and_parts, cases_lt}
use Rattle.std.proofs.lemmas.Int.{ints}
use Rattle.std.proofs.lemmas.List.{get_or-take, get_or-drop, get_or_past, take_at, length-take, length-take-le}
use Rattle.std.proofs.lemmas.List.Sums.{sum_by-cons}
use Rattle.dt_image.proofs.Fitting.{fitting_numbers_come_back}
use Rattle.dt_kinds.specs.Bytes.{AreBytes}
use Rattle.dt_kinds.specs.declared.kind.Rep.{Rep}
use Rattle.dt_kinds.specs.declared.kind.Rep.TheVariants.{Native, External32}
use Rattle.dt_kinds.specs.Image.{image, restore}
use Rattle.dt_kinds.specs.Kind.{native_size, packed_size}
use Rattle.dt_map.specs.declared.entry.Entry.{Entry}
use Rattle.dt_map.specs.Elements.{are_inside, lies_inside, IsByteOf}
use Rattle.dt_map.specs.Laws.{image_at}
use Rattle.dt_map.specs.Packed.{bytes_at, packed, total}
use Rattle.dt_map.specs.Setting.{set_each}
use Rattle.dt_map.specs.Typemap.{shift}
use Rattle.dt_map.proofs.Copies.{total-shift}
use Rattle.dt_map.proofs.Writing.{packed_has_total, setting_keeps_the_rest, setting_sets_each}
use Rattle.dt_rows.proofs.InsideRows.{bounds_of_inside}
use Rattle.dt_rows.proofs.SettingRows.{drop_none}
use Rattle.dt_unpack.specs.Laws.{buffer_after_all, PiecesAreJoined, HaveRoom, ReceivedIsSent}
use Rattle.dt_unpack.specs.Session.{Session, placed, total_of, completed, after, buffer_after, IsBetween, IsOpen}
use Rattle.dt_unpack.proofs.Opening.{packed_size-pos}
use Rattle.dt_unpack.proofs.Pieces.{after_both, buffer_both, buffer_nothing, between_any, completes, set_completed}

pub pieces_are_joined : PiecesAreJoined
pieces_are_joined s number buffer p q is = (after_both s is.before is.rest is.between p q, buffer_both s is.before is.rest is.between p q buffer)

-- pieces, one after another, do what they do joined
all_joined : (s : Session) (before rest : List Entry) → IsBetween s before rest → (buffer : List ℕ) (pieces : List (List ℕ)) → s.given + length (flat_map (λ p. p) pieces) ≤ total_of s
    → buffer_after_all s buffer pieces ≡ buffer_after s buffer (flat_map (λ p. p) pieces)
all_joined s before rest b buffer [] fits = sym (buffer_nothing s buffer)
all_joined s before rest b buffer (p ∷ pieces) fits =
    let long = length-append p (flat_map (λ q. q) pieces) in
    let here = between_any s before rest b p (omega (arith, fits, long)) in
    all_joined (after s p) here.0 here.1 here.2 (buffer_after s buffer p) pieces (omega (arith, fits, long))
    ∙ buffer_both s before rest b p (flat_map (λ q. q) pieces) buffer

-- an element that lies inside a buffer
pub record Lies (len : ℕ) (e : Entry) : Type 0 where
  pub starts : e.disp ≡ pos (nat_abs e.disp)
  pub ends : nat_abs e.disp + native_size e.kind ≤ len

pub lies : (len : ℕ) (e : Entry) → lies_inside len e ≡ true → Lies len e
lies len e inside =
    let b = bounds_of_inside len e inside in
    let low = b.0 in
    let high = b.1 in
    record { starts = omega (arith, ints, low); ends = omega (arith, ints, low, high) }

pub size_there : (buffer : List ℕ) (e : Entry) → Lies (length buffer) e → length (bytes_at buffer e) ≡ native_size e.kind
size_there buffer e l = let room = l.ends in length-take-le (native_size e.kind) (drop (nat_abs e.disp) buffer) (omega (arith, room, length-drop (nat_abs e.disp) buffer))

lies_at : (buffer : List ℕ) (es : List Entry) → are_inside (length buffer) es ≡ true → (i : ℕ) (d : Entry) → i < length es → Lies (length buffer) (slice_index_or es i d)
lies_at buffer [] inside i d within = absurd (omega (arith, within))
lies_at buffer (e ∷ es) inside zero d within = lies (length buffer) e (and_parts (lies_inside (length buffer) e) (are_inside (length buffer) es) inside).0
lies_at buffer (e ∷ es) inside (suc i) d within = lies_at buffer es (and_parts (lies_inside (length buffer) e) (are_inside (length buffer) es) inside).1 i d (omega (arith, within))

image_size : (rep : Rep) (e : Entry) (buffer : List ℕ) → lies_inside (length buffer) e ≡ true → length (image rep e.kind (bytes_at buffer e)) ≡ packed_size rep e.kind
image_size rep e buffer inside =
    let all = packed_has_total rep (e ∷ []) buffer (ap (λ b. b && true) inside) in
    let sum = sum_by-cons (λ (f : Entry). packed_size rep f.kind) e [] in
    omega (arith, all, sum, length-append (image rep e.kind (bytes_at buffer e)) [])

-- the bytes of an element, one by one
byte_there : (buffer : List ℕ) (e : Entry) → Lies (length buffer) e → (x : ℕ) → IsByteOf (pos x) e → slice_index (bytes_at buffer e) (x - nat_abs e.disp) ≡ slice_index buffer x
byte_there buffer e l x on =
    let start = l.starts in
    let low : nat_abs e.disp ≤ x = omega (arith, ints, start, on.0) in
    let high : x < nat_abs e.disp + native_size e.kind = omega (arith, ints, start, on.1) in
    let place : nat_abs e.disp + (x - nat_abs e.disp) ≡ x = omega (arith, low) in
    get_or-take (native_size e.kind) (drop (nat_abs e.disp) buffer) (x - nat_abs e.disp) 0 (omega (arith, low, high))
    ∙ get_or-drop (nat_abs e.disp) buffer (x - nat_abs e.disp) 0 ∙ ap (λ k. get_or buffer k 0) place

are_bytes : (buffer : List ℕ) (e : Entry) → AreBytes buffer → AreBytes (bytes_at buffer e)
are_bytes buffer e bytes i =
    let rest = drop (nat_abs e.disp) buffer in
    elim (cases_lt i (native_size e.kind)) [
      | inl less ↦ subst (λ n. n < 256) (sym (get_or-take (native_size e.kind) rest i 0 less ∙ get_or-drop (nat_abs e.disp) buffer i 0)) (bytes (nat_abs e.disp + i))
      | inr past ↦ subst (λ n. n < 256) (sym (get_or_past (take (native_size e.kind) rest) i 0 (omega (arith, past, length-take (native_size e.kind) rest)))) (omega arith)
    ]

-- the image of an element among the packed bytes of a buffer
packed_image : (rep : Rep) (es : List Entry) (buffer : List ℕ) → are_inside (length buffer) es ≡ true → (i : ℕ) (d : Entry) → i < length es
    → image_at rep es i (slice_index_or es i d) (packed rep es buffer) ≡ image rep (slice_index_or es i d).kind (bytes_at buffer (slice_index_or es i d))
packed_image rep [] buffer inside i d within = absurd (omega (arith, within))
packed_image rep (e ∷ es) buffer inside zero d within =
    let first = image rep e.kind (bytes_at buffer e) in
    ap (take (packed_size rep e.kind)) (drop_none (first ++ packed rep es buffer)) ∙ take_at first (packed rep es buffer) (packed_size rep e.kind) (image_size rep e buffer (and_parts (lies_inside (length buffer) e) (are_inside (length buffer) es) inside).0)
packed_image rep (e ∷ es) buffer inside (suc i) d within =
    let f = slice_index_or es i d in
    let first = image rep e.kind (bytes_at buffer e) in
    let parts = and_parts (lies_inside (length buffer) e) (are_inside (length buffer) es) inside in
    let size = image_size rep e buffer parts.0 in
    let sum = sum_by-cons (λ (g : Entry). packed_size rep g.kind) e (take i es) in
    let place : total rep (e ∷ take i es) ≡ length first + total rep (take i es) = omega (arith, sum, size) in
    ap (λ n. take (packed_size rep f.kind) (drop n (first ++ packed rep es buffer))) place
    ∙ ap (take (packed_size rep f.kind)) (drop-append-add first (packed rep es buffer) (total rep (take i es)))
    ∙ packed_image rep es buffer parts.1 i d (omega (arith, within))

-- an element comes back
comes_back : (rep : Rep) (es : List Entry) (buffer : List ℕ) → AreBytes buffer → HaveRoom rep es buffer → are_inside (length buffer) es ≡ true → (i : ℕ) (d : Entry) → i < length es
    → restore rep (slice_index_or es i d).kind (image rep (slice_index_or es i d).kind (bytes_at buffer (slice_index_or es i d))) ≡ bytes_at buffer (slice_index_or es i d)
comes_back Native es buffer bytes room inside i d within = refl
comes_back External32 es buffer bytes room inside i d within =
    let e = slice_index_or es i d in
    fitting_numbers_come_back External32 e.kind (bytes_at buffer e) (size_there buffer e (lies_at buffer es inside i d within)) (are_bytes buffer e bytes) (room i d within)

-- at the beginning nothing is complete, and nothing is held
record Begun (s : Session) : Type 0 where
  held : s.held ≡ []
  all : (bytes : List ℕ) → length bytes ≡ total_of s → completed s bytes ≡ s.elements

no_bytes : (rep : Rep) (es : List Entry) → total rep es ≡ 0 → es ≡ []
no_bytes rep [] none = refl
no_bytes rep (e ∷ es) none = let some = packed_size-pos rep e in absurd (omega (arith, none, some, sum_by-cons (λ (f : Entry). packed_size rep f.kind) e es))

none_held_at : (held : List ℕ) → length held ≡ 0 → held ≡ []
none_held_at [] none = refl
none_held_at (x ∷ held) none = absurd (omega (arith, none))

begun : (s : Session) (number : ℕ) → IsOpen s number → s.given ≡ 0 → Begun s
begun s number is none =
    let place = is.between.place in
    let before = no_bytes s.rep is.before (omega (arith, none, place)) in
    let held = none_held_at s.held (omega (arith, none, place)) in
    let whole : s.elements ≡ is.rest = is.between.all ∙ ap (λ es. es ++ is.rest) before in
    record {
      held = held;
      all = λ bytes long.
          let b : IsBetween s is.before (is.rest ++ []) = subst (IsBetween s is.before) (sym (append-nil is.rest)) is.between in
          let total_is = ap (total s.rep) whole in
          let count = ap length held in
          completes s is.before is.rest [] bytes b 0 (omega (arith, long, total_is, count)) refl ∙ sym whole;
    }

pub received_is_sent : ReceivedIsSent
received_is_sent s number sent buffer pieces is none same long bytes room joined =
    let es = placed s in
    let images = packed s.rep es sent in
    let inside : are_inside (length sent) es ≡ true = ap (λ n. are_inside n es) same ∙ is.inside in
    let inside_too : are_inside (length buffer) es ≡ true = ap (λ n. are_inside n es) long ∙ is.inside in
    let count : length images ≡ total_of s = packed_has_total s.rep es sent inside ∙ total-shift s.rep s.origin s.elements in
    let enough : total s.rep es ≤ length images = (let moved = total-shift s.rep s.origin s.elements in omega (arith, count, moved)) in
    let start = begun s number is none in
    let given : buffer_after_all s buffer pieces ≡ set_each s.rep es buffer images =
    all_joined s is.before is.rest is.between buffer pieces (let all = ap length joined in omega (arith, none, all, count))
    ∙ ap (buffer_after s buffer) joined ∙ set_completed s buffer images
    ∙ ap (λ fs. set_each s.rep (shift s.origin fs) buffer (s.held ++ images)) (start.all images count)
    ∙ ap (λ h. set_each s.rep es buffer (h ++ images)) start.held in (
      λ i x d within on.
          let e = slice_index_or es i d in
          ap (λ b. slice_index b x) given
          ∙ setting_sets_each s.rep es buffer images inside_too enough is.apart i x d within on
          ∙ ap (λ p. slice_index (restore s.rep e.kind p) (x - nat_abs e.disp)) (packed_image s.rep es sent inside i d within)
          ∙ ap (λ b. slice_index b (x - nat_abs e.disp)) (comes_back s.rep es sent bytes room inside i d within)
          ∙ byte_there sent e (lies_at sent es inside i d within) x on,
      λ x off. ap (λ b. slice_index b x) given ∙ (setting_keeps_the_rest s.rep es buffer images inside_too enough).1 x off,
    )
