-- setting elements: which bytes change, and to what
use Rattle.std.proofs.Common.{◌≡◌, ℕ, zero, suc, ◌+◌, ◌-◌, ◌≤◌, ◌<◌, inl, inr, Bool, true, false, ◌&&◌, ℤ, pos, negsuc, ◌+ℤ◌, ◌≤ℤ◌, ◌<ℤ◌, int_le, nat_abs, List, [], ◌∷◌, ◌++◌, take, drop, length, get_or, reverse, replicate, slice_index_or, refl, sym, ap, subst, ◌∙◌, arith, length-append, length-drop}
use Rattle.std.proofs.lemmas.Bool.{cases_lt}
use Rattle.std.proofs.lemmas.Int.{ints}
use Rattle.std.proofs.lemmas.List.{length-take-le, drop-drop, length-reverse, length-replicate, get_or_append_left, get_or-append_right, get_or-take, get_or-drop}
use Rattle.std.proofs.lemmas.List.Elements.{All-head, All-tail}
use Rattle.std.proofs.lemmas.List.Sums.{sum_by-cons}
use Rattle.std.specs.List.{All, HoldsAt}
use Rattle.dt_kinds.specs.declared.kind.Kind.{Kind}
use Rattle.dt_kinds.specs.declared.kind.Rep.{Rep}
use Rattle.dt_kinds.specs.declared.kind.Rep.TheVariants.{Native, External32}
use Rattle.dt_kinds.specs.Kind.{native_size, external_size, packed_size}
use Rattle.dt_kinds.specs.Image.{image, restore, filler}
use Rattle.dt_kinds.proofs.Table.{external_is_no_larger}
use Rattle.dt_map.specs.declared.entry.Entry.{Entry}
use Rattle.dt_map.specs.Bounds.{end_of}
use Rattle.dt_map.specs.Elements.{lies_inside, are_inside, IsByteOf, Overlaps}
use Rattle.dt_map.specs.Packed.{bytes_at, packed, total}
use Rattle.dt_map.specs.Setting.{written, set_one, set_each}
use Rattle.dt_map.specs.Laws.{image_at, PackedHasTotal, SettingKeepsTheRest, SettingSetsEach}

both_true : (a b : Bool) → (a && b) ≡ true → (a ≡ true) × (b ≡ true)
both_true true true e = (refl, refl)
both_true true false e = cc
both_true false b e = cc

le_from_test : (a b : ℤ) → int_le a b ≡ true → a ≤ℤ b
le_from_test a b e = grind (arith, ints)

-- where an element lies
record Lies (len : ℕ) (e : Entry) : Type 0 where
  starts : e.disp ≡ pos (nat_abs e.disp)
  ends : nat_abs e.disp + native_size e.kind ≤ len

at_natural : (disp : ℤ) (size len : ℕ) → pos 0 ≤ℤ disp → (disp +ℤ pos size) ≤ℤ pos len → (disp ≡ pos (nat_abs disp)) × (nat_abs disp + size ≤ len)
at_natural (pos n) size len low high = (refl, omega (arith, ints))
at_natural (negsuc n) size len low high = absurd (omega (arith, ints))

lies : (len : ℕ) (e : Entry) → lies_inside len e ≡ true → Lies len e
lies len e h =
    let parts = both_true (int_le (pos 0) e.disp) (int_le (end_of e) (pos len)) h in
    let here = at_natural e.disp (native_size e.kind) len (le_from_test (pos 0) e.disp parts.0) (le_from_test (end_of e) (pos len) parts.1) in
    record { starts = here.0; ends = here.1 }

-- what is written
length-written : (buffer : List ℕ) (at : ℕ) (bytes : List ℕ) → at + length bytes ≤ length buffer → length (written buffer at bytes) ≡ length buffer
length-written buffer at bytes fits =
    omega (arith, length-append (take at buffer) (bytes ++ drop (at + length bytes) buffer), length-append bytes (drop (at + length bytes) buffer), length-take-le at buffer (omega arith), length-drop (at + length bytes) buffer)

written_before : (buffer : List ℕ) (at : ℕ) (bytes : List ℕ) (x : ℕ) → at + length bytes ≤ length buffer → x < at → get_or (written buffer at bytes) x 0 ≡ get_or buffer x 0
written_before buffer at bytes x fits before =
    let front = length-take-le at buffer (omega arith) in
    get_or_append_left (take at buffer) (bytes ++ drop (at + length bytes) buffer) 0 x (omega arith) ∙ get_or-take at buffer x 0 before

written_in : (buffer : List ℕ) (at : ℕ) (bytes : List ℕ) (x : ℕ) → at + length bytes ≤ length buffer → at ≤ x → x < at + length bytes → get_or (written buffer at bytes) x 0 ≡ get_or bytes (x - at) 0
written_in buffer at bytes x fits from to =
    let front = length-take-le at buffer (omega arith) in
    get_or-append_right (take at buffer) (bytes ++ drop (at + length bytes) buffer) at x 0 front from
    ∙ get_or_append_left bytes (drop (at + length bytes) buffer) 0 (x - at) (omega arith)

written_after : (buffer : List ℕ) (at : ℕ) (bytes : List ℕ) (x : ℕ) → at + length bytes ≤ length buffer → at + length bytes ≤ x → get_or (written buffer at bytes) x 0 ≡ get_or buffer x 0
written_after buffer at bytes x fits after =
    let front = length-take-le at buffer (omega arith) in
    let place : (at + length bytes) + ((x - at) - length bytes) ≡ x = omega arith in
    get_or-append_right (take at buffer) (bytes ++ drop (at + length bytes) buffer) at x 0 front (omega arith)
    ∙ (get_or-append_right bytes (drop (at + length bytes) buffer) (length bytes) (x - at) 0 refl (omega arith)
    ∙ (get_or-drop (at + length bytes) buffer ((x - at) - length bytes) 0 ∙ ap (λ k. get_or buffer k 0) place))

-- what an image stands for has the native size
pub length-restore : (rep : Rep) (kind : Kind) (packed : List ℕ) → length packed ≡ packed_size rep kind → length (restore rep kind packed) ≡ native_size kind
length-restore Native kind packed e = e
length-restore External32 kind packed e =
    omega (arith, length-append (reverse packed) (replicate (native_size kind - length packed) (filler kind packed)), length-reverse packed, length-replicate (native_size kind - length packed) (filler kind packed), external_is_no_larger kind)

total-cons : (rep : Rep) (e : Entry) (es : List Entry) → total rep (e ∷ es) ≡ packed_size rep e.kind + total rep es
total-cons rep e es = sum_by-cons (λ (e : Entry). packed_size rep e.kind) e es

-- what is packed
length-image : (rep : Rep) (kind : Kind) (bytes : List ℕ) → length bytes ≡ native_size kind → length (image rep kind bytes) ≡ packed_size rep kind
length-image Native kind bytes e = e
length-image External32 kind bytes e = length-reverse (take (external_size kind) bytes) ∙ length-take-le (external_size kind) bytes (omega (arith, e, external_is_no_larger kind))

length-bytes_at : (buffer : List ℕ) (e : Entry) → Lies (length buffer) e → length (bytes_at buffer e) ≡ native_size e.kind
length-bytes_at buffer e h =
    let room = h.ends in
    length-take-le (native_size e.kind) (drop (nat_abs e.disp) buffer) (omega (arith, room, length-drop (nat_abs e.disp) buffer))

pub packed_has_total : PackedHasTotal
packed_has_total rep [] buffer inside = refl
packed_has_total rep (e ∷ es) buffer inside =
    let parts = both_true (lies_inside (length buffer) e) (are_inside (length buffer) es) inside in
    let here = length-image rep e.kind (bytes_at buffer e) (length-bytes_at buffer e (lies (length buffer) e parts.0)) in
    let rest = packed_has_total rep es buffer parts.1 in
    omega (arith, length-append (image rep e.kind (bytes_at buffer e)) (packed rep es buffer), here, rest, total-cons rep e es)

-- the first of the elements that are set, and what is left of the images
abbrev first_image : Rep → Entry → List ℕ → List ℕ
first_image rep e images = take (packed_size rep e.kind) images

abbrev first_bytes : Rep → Entry → List ℕ → List ℕ
first_bytes rep e images = restore rep e.kind (first_image rep e images)

record First (rep : Rep) (e : Entry) (es : List Entry) (buffer images : List ℕ) : Type 0 where
  place : Lies (length buffer) e
  bytes : length (first_bytes rep e images) ≡ native_size e.kind
  kept : length (set_one rep e buffer (first_image rep e images)) ≡ length buffer
  others : are_inside (length (set_one rep e buffer (first_image rep e images))) es ≡ true
  enough : total rep es ≤ length (drop (packed_size rep e.kind) images)

first : (rep : Rep) (e : Entry) (es : List Entry) (buffer images : List ℕ) → are_inside (length buffer) (e ∷ es) ≡ true → total rep (e ∷ es) ≤ length images → First rep e es buffer images
first rep e es buffer images inside enough =
    let sum = total-cons rep e es in
    let parts = both_true (lies_inside (length buffer) e) (are_inside (length buffer) es) inside in
    let here = lies (length buffer) e parts.0 in
    let size : length (first_image rep e images) ≡ packed_size rep e.kind = length-take-le (packed_size rep e.kind) images (omega arith) in
    let bytes = length-restore rep e.kind (first_image rep e images) size in
    let room = here.ends in
    let kept = length-written buffer (nat_abs e.disp) (first_bytes rep e images) (omega (arith, bytes, room)) in
    record {
      place = here;
      bytes = bytes;
      kept = kept;
      others = ap (λ len. are_inside len es) kept ∙ parts.1;
      enough = omega (arith, sum, length-drop (packed_size rep e.kind) images);
    }

-- a byte that isn't an element's stays
off_by : (disp : ℤ) (at size x : ℕ) → disp ≡ pos at → (((disp ≤ℤ pos x) × (pos x <ℤ (disp +ℤ pos size))) → ⊥) → at ≤ x → x < at + size → ⊥
off_by disp at size x same off from to = off (omega (arith, ints), omega (arith, ints))

one_keeps : (rep : Rep) (e : Entry) (es : List Entry) (buffer images : List ℕ) (x : ℕ) → First rep e es buffer images → (IsByteOf (pos x) e → ⊥) →
    get_or (set_one rep e buffer (first_image rep e images)) x 0 ≡ get_or buffer x 0
one_keeps rep e es buffer images x h off =
    let at = nat_abs e.disp in
    let bytes = h.bytes in
    let room = h.place.ends in
    elim (cases_lt x at) [
      | inl before ↦ written_before buffer at (first_bytes rep e images) x (omega (arith, bytes, room)) before
      | inr from ↦
          elim (cases_lt x (at + native_size e.kind)) [
            | inl to ↦ absurd (off_by e.disp at (native_size e.kind) x h.place.starts off from to)
            | inr after ↦ written_after buffer at (first_bytes rep e images) x (omega (arith, bytes, room)) (omega (arith, bytes, after))
          ]
    ]

one_sets : (rep : Rep) (e : Entry) (es : List Entry) (buffer images : List ℕ) (x : ℕ) → First rep e es buffer images → IsByteOf (pos x) e →
    get_or (set_one rep e buffer (first_image rep e images)) x 0 ≡ get_or (first_bytes rep e images) (x - nat_abs e.disp) 0
one_sets rep e es buffer images x h on =
    let at = nat_abs e.disp in
    let bytes = h.bytes in
    let room = h.place.ends in
    let start = h.place.starts in
    written_in buffer at (first_bytes rep e images) x (omega (arith, bytes, room)) (omega (arith, ints, start, on.0)) (omega (arith, ints, start, bytes, on.1))

keeps_length : (rep : Rep) (es : List Entry) (buffer images : List ℕ) → are_inside (length buffer) es ≡ true → total rep es ≤ length images → length (set_each rep es buffer images) ≡ length buffer
keeps_length rep [] buffer images inside enough = refl
keeps_length rep (e ∷ es) buffer images inside enough =
    let h = first rep e es buffer images inside enough in
    keeps_length rep es (set_one rep e buffer (first_image rep e images)) (drop (packed_size rep e.kind) images) h.others h.enough ∙ h.kept

keeps_byte : (rep : Rep) (es : List Entry) (buffer images : List ℕ) → are_inside (length buffer) es ≡ true → total rep es ≤ length images → (x : ℕ) → All (λ e. IsByteOf (pos x) e → ⊥) es →
    get_or (set_each rep es buffer images) x 0 ≡ get_or buffer x 0
keeps_byte rep [] buffer images inside enough x off = refl
keeps_byte rep (e ∷ es) buffer images inside enough x off =
    let h = first rep e es buffer images inside enough in
    let P : Entry → Type 0 = λ e. IsByteOf (pos x) e → ⊥ in
    keeps_byte rep es (set_one rep e buffer (first_image rep e images)) (drop (packed_size rep e.kind) images) h.others h.enough x (All-tail P e es off)
    ∙ one_keeps rep e es buffer images x h (All-head P e es off)

pub setting_keeps_the_rest : SettingKeepsTheRest
setting_keeps_the_rest rep es buffer images inside enough = (keeps_length rep es buffer images inside enough, keeps_byte rep es buffer images inside enough)

-- the value at a place of the list doesn't hang on what would stand past its end
same_at : (es : List Entry) (k : ℕ) (d d' : Entry) → k < length es → slice_index_or es k d ≡ slice_index_or es k d'
same_at [] k d d' lt = absurd (omega arith)
same_at (e ∷ es) zero d d' lt = refl
same_at (e ∷ es) (suc k) d d' lt = same_at es k d d' (omega arith)

everywhere : (x : ℤ) (es : List Entry) (k : ℕ) (d : Entry) → k < length es → IsByteOf x (slice_index_or es k d) → HoldsAt (IsByteOf x) es k
everywhere x es k d lt on d' = subst (IsByteOf x) (same_at es k d d' lt) on

-- elements that don't overlap
head_apart : (e : Entry) (es : List Entry) (x : ℕ) → (Overlaps (e ∷ es) → ⊥) → IsByteOf (pos x) e → All (λ f. IsByteOf (pos x) f → ⊥) es
head_apart e es x apart on k d lt shared =
    apart (zero, suc k, pos x, omega arith, omega arith, (λ d'. on), everywhere (pos x) es k d lt shared)

tail_apart : (e : Entry) (es : List Entry) → (Overlaps (e ∷ es) → ⊥) → Overlaps es → ⊥
tail_apart e es apart h = apart (suc h.0, suc h.1, h.2, omega (arith, h.3), omega (arith, h.4), h.5, h.6)

images_after : (rep : Rep) (e : Entry) (es : List Entry) (i : ℕ) (f : Entry) (images : List ℕ) → image_at rep es i f (drop (packed_size rep e.kind) images) ≡ image_at rep (e ∷ es) (suc i) f images
images_after rep e es i f images =
    ap (take (packed_size rep f.kind)) (drop-drop (total rep (take i es)) (packed_size rep e.kind) images ∙ ap (λ n. drop n images) (sym (total-cons rep e (take i es))))

pub setting_sets_each : SettingSetsEach
setting_sets_each rep [] buffer images inside enough apart i x d lt on = absurd (omega arith)
setting_sets_each rep (e ∷ es) buffer images inside enough apart zero x d lt on =
    let h = first rep e es buffer images inside enough in
    keeps_byte rep es (set_one rep e buffer (first_image rep e images)) (drop (packed_size rep e.kind) images) h.others h.enough x (head_apart e es x apart on)
    ∙ one_sets rep e es buffer images x h on
setting_sets_each rep (e ∷ es) buffer images inside enough apart (suc i) x d lt on =
    let h = first rep e es buffer images inside enough in
    let f = slice_index_or es i d in
    setting_sets_each rep es (set_one rep e buffer (first_image rep e images)) (drop (packed_size rep e.kind) images) h.others h.enough (tail_apart e es apart) i x d (omega arith) on
    ∙ ap (λ packed. get_or (restore rep f.kind packed) (x - nat_abs f.disp) 0) (images_after rep e es i f images)
