-- Elements that have no byte in common with others: setting the ones leaves what the others hold, and either may be set first.
use Rattle.std.specs.Prelude.{◌≡◌, ℕ, zero, suc, ◌+◌, ◌-◌, ◌<◌, ◌≤◌, ℤ, pos, nat_abs, ◌⊎◌, List, [], ◌∷◌, ◌++◌, take, drop, length, get_or}
use Rattle.std.specs.List.{AllByRecursion}
use Rattle.std.proofs.Common.{true, ◌&&◌, inl, inr, refl, sym, ap, subst, ◌∙◌, arith, length-drop}
use Rattle.std.proofs.lemmas.Bool.{and_parts, cases_lt}
use Rattle.std.proofs.lemmas.Grind.{same_number_lists}
use Rattle.std.proofs.lemmas.Int.{ints}
use Rattle.std.proofs.lemmas.List.{get_or-take, get_or-drop, drop-map, take-map}
use Rattle.std.proofs.lemmas.List.Elements.{All-from_recursion}
use Rattle.std.proofs.lemmas.List.Sums.{sum_by-cons}
use Rattle.dt_kinds.specs.declared.kind.Rep.{Rep}
use Rattle.dt_kinds.specs.Image.{image, restore}
use Rattle.dt_kinds.specs.Kind.{native_size, packed_size}
use Rattle.dt_map.specs.declared.entry.Entry.{Entry}
use Rattle.dt_map.specs.Elements.{are_inside, lies_inside, IsByteOf, Overlaps}
use Rattle.dt_map.specs.Laws.{image_at}
use Rattle.dt_map.specs.Packed.{bytes_at, packed, total}
use Rattle.dt_map.specs.Setting.{set_each}
use Rattle.dt_map.specs.Typemap.{shift_entry}
use Rattle.dt_map.proofs.Copies.{total-shift}
use Rattle.dt_map.proofs.Writing.{setting_keeps_the_rest, setting_sets_each}
use Rattle.dt_unpack.specs.Laws.{AreApart, set_by, OthersAreKept, OrderIsFree}
use Rattle.dt_unpack.specs.Session.{Session, placed, complete, complete_with, completed, buffer_after, IsOpen}
use Rattle.dt_unpack.proofs.Pieces.{enough, set_completed}
use Rattle.dt_unpack.proofs.Receiving.{Lies, lies, size_there}

-- one element alone is set
abbrev set_first : Rep → Entry → List ℕ → List ℕ → List ℕ
set_first rep e buffer images = set_each rep (e ∷ []) buffer images

-- an element that lies inside, with its image
record IsThere (rep : Rep) (len : ℕ) (e : Entry) (images : List ℕ) : Type 0 where
  inside : are_inside len (e ∷ []) ≡ true
  lies : Lies len e
  enough : total rep (e ∷ []) ≤ length images

total-cons : (rep : Rep) (e : Entry) (es : List Entry) → total rep (e ∷ es) ≡ packed_size rep e.kind + total rep es
total-cons rep e es = sum_by-cons (λ (f : Entry). packed_size rep f.kind) e es

first_there : (rep : Rep) (len : ℕ) (e : Entry) (es : List Entry) (images : List ℕ) → are_inside len (e ∷ es) ≡ true → total rep (e ∷ es) ≤ length images → IsThere rep len e images
first_there rep len e es images inside all =
    let here = (and_parts (lies_inside len e) (are_inside len es) inside).0 in
    record {
      inside = ap (λ b. b && true) here;
      lies = lies len e here;
      enough = omega (arith, all, total-cons rep e es, total-cons rep e []);
    }

others_there : (rep : Rep) (len : ℕ) (e : Entry) (es : List Entry) (images : List ℕ) → are_inside len (e ∷ es) ≡ true → total rep (e ∷ es) ≤ length images
    → (are_inside len es ≡ true) × (total rep es ≤ length (drop (packed_size rep e.kind) images))
others_there rep len e es images inside all =
    ((and_parts (lies_inside len e) (are_inside len es) inside).1, omega (arith, all, total-cons rep e es, length-drop (packed_size rep e.kind) images))

alone : (e : Entry) → Overlaps (e ∷ []) → ⊥
alone e h = let less = h.3 in let within = h.4 in absurd (omega (arith, less, within))

-- a place is a byte of an element or it isn't
on_or_off : (len : ℕ) (e : Entry) (x : ℕ) → Lies len e → IsByteOf (pos x) e ⊎ (IsByteOf (pos x) e → ⊥)
on_or_off len e x l =
    let start = l.starts in
    elim (cases_lt x (nat_abs e.disp)) [
      | inl before ↦ inr (λ on. let low = on.0 in absurd (omega (arith, ints, start, before, low)))
      | inr from ↦
          elim (cases_lt x (nat_abs e.disp + native_size e.kind)) [
            | inl to ↦ inl (omega (arith, ints, start, from), omega (arith, ints, start, to))
            | inr after ↦ inr (λ on. let high = on.1 in absurd (omega (arith, ints, start, after, high)))
          ]
    ]

-- what one element sets
module _ (rep : Rep) (e : Entry) (buffer images : List ℕ) (there : IsThere rep (length buffer) e images) where
  one_length : length (set_first rep e buffer images) ≡ length buffer
  one_length = (setting_keeps_the_rest rep (e ∷ []) buffer images there.inside there.enough).0

  one_off : (x : ℕ) → (IsByteOf (pos x) e → ⊥) → get_or (set_first rep e buffer images) x 0 ≡ get_or buffer x 0
  one_off x off =
      (setting_keeps_the_rest rep (e ∷ []) buffer images there.inside there.enough).1 x
      (All-from_recursion (λ f. IsByteOf (pos x) f → ⊥) (e ∷ []) (off, tt))

  one_on : (x : ℕ) → IsByteOf (pos x) e → get_or (set_first rep e buffer images) x 0 ≡ get_or (restore rep e.kind (image_at rep (e ∷ []) 0 e images)) (x - nat_abs e.disp) 0
  one_on x on = setting_sets_each rep (e ∷ []) buffer images there.inside there.enough (alone e) 0 x e (omega arith) on

-- two elements that have no byte in common
abbrev HaveNone : Entry → Entry → Type 0
HaveNone e f = (x : ℤ) → IsByteOf x e → IsByteOf x f → ⊥

there_by : (rep : Rep) (len n : ℕ) (e : Entry) (images : List ℕ) → len ≡ n → IsThere rep len e images → IsThere rep n e images
there_by rep len n e images same there = subst (λ k. IsThere rep k e images) same there

two_turned : (rep sep : Rep) (e f : Entry) (buffer p q : List ℕ) → HaveNone e f → IsThere rep (length buffer) e p → IsThere sep (length buffer) f q
    → set_first sep f (set_first rep e buffer p) q ≡ set_first rep e (set_first sep f buffer q) p
two_turned rep sep e f buffer p q apart one two =
    let a = set_first rep e buffer p in
    let b = set_first sep f buffer q in
    let two_a = there_by sep (length buffer) (length a) f q (sym (one_length rep e buffer p one)) two in
    let one_b = there_by rep (length buffer) (length b) e p (sym (one_length sep f buffer q two)) one in
    let left = one_length sep f a q two_a ∙ one_length rep e buffer p one in
    let right = one_length rep e b p one_b ∙ one_length sep f buffer q two in
    same_number_lists (set_first sep f a q) (set_first rep e b p) (left ∙ sym right) (λ x within.
    elim (on_or_off (length buffer) e x one.lies) [
      | inl on ↦ one_off sep f a q two_a x (apart (pos x) on) ∙ one_on rep e buffer p one x on ∙ sym (one_on rep e b p one_b x on)
      | inr off ↦
          elim (on_or_off (length buffer) f x two.lies) [
            | inl on ↦ one_on sep f a q two_a x on ∙ sym (one_on sep f buffer q two x on) ∙ sym (one_off rep e b p one_b x off)
            | inr none ↦
                one_off sep f a q two_a x none ∙ one_off rep e buffer p one x off
                ∙ sym (one_off rep e b p one_b x off ∙ one_off sep f buffer q two x none)
          ]
    ])

-- one element and others
one_turned : (rep sep : Rep) (e : Entry) (fs : List Entry) (buffer p q : List ℕ) → AllByRecursion (HaveNone e) fs → IsThere rep (length buffer) e p
    → are_inside (length buffer) fs ≡ true → total sep fs ≤ length q
    → set_each sep fs (set_first rep e buffer p) q ≡ set_first rep e (set_each sep fs buffer q) p
one_turned rep sep e [] buffer p q apart one inside all = refl
one_turned rep sep e (f ∷ fs) buffer p q apart one inside all =
    let two = first_there sep (length buffer) f fs q inside all in
    let rest = others_there sep (length buffer) f fs q inside all in
    let b = set_first sep f buffer q in
    let same = sym (one_length sep f buffer q two) in
    ap (λ c. set_each sep fs c (drop (packed_size sep f.kind) q)) (two_turned rep sep e f buffer p q apart.0 one two)
    ∙ one_turned rep sep e fs b p (drop (packed_size sep f.kind) q) apart.1 (there_by rep (length buffer) (length b) e p same one)
    (ap (λ n. are_inside n fs) (sym same) ∙ rest.0) rest.1

-- some elements and others
sets_turned : (rep sep : Rep) (es fs : List Entry) (buffer p q : List ℕ) → AreApart es fs → are_inside (length buffer) es ≡ true → total rep es ≤ length p
    → are_inside (length buffer) fs ≡ true → total sep fs ≤ length q
    → set_each sep fs (set_each rep es buffer p) q ≡ set_each rep es (set_each sep fs buffer q) p
sets_turned rep sep [] fs buffer p q apart inside all inside_too all_too = refl
sets_turned rep sep (e ∷ es) fs buffer p q apart inside all inside_too all_too =
    let one = first_there rep (length buffer) e es p inside all in
    let rest = others_there rep (length buffer) e es p inside all in
    let c = set_first rep e buffer p in
    let same = one_length rep e buffer p one in
    sets_turned rep sep es fs c (drop (packed_size rep e.kind) p) q apart.1 (ap (λ n. are_inside n es) same ∙ rest.0) rest.1
    (ap (λ n. are_inside n fs) same ∙ inside_too) all_too
    ∙ ap (λ d. set_each rep es d (drop (packed_size rep e.kind) p)) (one_turned rep sep e fs buffer p q apart.0 one inside_too all_too)

-- what another element holds
one_kept : (rep : Rep) (e f : Entry) (buffer p : List ℕ) → HaveNone e f → IsThere rep (length buffer) e p → Lies (length buffer) f
    → bytes_at (set_first rep e buffer p) f ≡ bytes_at buffer f
one_kept rep e f buffer p apart one there =
    let c = set_first rep e buffer p in
    let there_too : Lies (length c) f = subst (λ n. Lies n f) (sym (one_length rep e buffer p one)) there in
    let size = size_there buffer f there in
    let start = there.starts in
    let at = nat_abs f.disp in
    same_number_lists (bytes_at c f) (bytes_at buffer f) (size_there c f there_too ∙ sym size) (λ k within.
    let less : k < native_size f.kind = subst (λ n. k < n) (size_there c f there_too) within in
    get_or-take (native_size f.kind) (drop at c) k 0 less ∙ get_or-drop at c k 0
    ∙ one_off rep e buffer p one (at + k) (λ on. apart (pos (at + k)) on (omega (arith, ints, start), omega (arith, ints, start, less)))
    ∙ sym (get_or-take (native_size f.kind) (drop at buffer) k 0 less ∙ get_or-drop at buffer k 0))

others_kept_by_one : (rep sep : Rep) (e : Entry) (fs : List Entry) (buffer p : List ℕ) → AllByRecursion (HaveNone e) fs → IsThere rep (length buffer) e p
    → are_inside (length buffer) fs ≡ true → packed sep fs (set_first rep e buffer p) ≡ packed sep fs buffer
others_kept_by_one rep sep e [] buffer p apart one inside = refl
others_kept_by_one rep sep e (f ∷ fs) buffer p apart one inside =
    let parts = and_parts (lies_inside (length buffer) f) (are_inside (length buffer) fs) inside in
    ap (λ bytes. image sep f.kind bytes ++ packed sep fs (set_first rep e buffer p)) (one_kept rep e f buffer p apart.0 one (lies (length buffer) f parts.0))
    ∙ ap (λ rest. image sep f.kind (bytes_at buffer f) ++ rest) (others_kept_by_one rep sep e fs buffer p apart.1 one parts.1)

others_kept : (rep sep : Rep) (es fs : List Entry) (buffer p : List ℕ) → AreApart es fs → are_inside (length buffer) es ≡ true → total rep es ≤ length p
    → are_inside (length buffer) fs ≡ true → packed sep fs (set_each rep es buffer p) ≡ packed sep fs buffer
others_kept rep sep [] fs buffer p apart inside all inside_too = refl
others_kept rep sep (e ∷ es) fs buffer p apart inside all inside_too =
    let one = first_there rep (length buffer) e es p inside all in
    let rest = others_there rep (length buffer) e es p inside all in
    let c = set_first rep e buffer p in
    let same = one_length rep e buffer p one in
    others_kept rep sep es fs c (drop (packed_size rep e.kind) p) apart.1 (ap (λ n. are_inside n es) same ∙ rest.0) rest.1
    (ap (λ n. are_inside n fs) same ∙ inside_too)
    ∙ others_kept_by_one rep sep e fs buffer p apart.0 one inside_too

-- some of a list
module _ (P : Entry → Type 0) where
  abbrev Each : List Entry → Type 0
  Each es = AllByRecursion P es

  each_drop : (n : ℕ) (es : List Entry) → Each es → Each (drop n es)
  each_drop zero [] all = tt
  each_drop zero (e ∷ es) all = all
  each_drop (suc n) [] all = tt
  each_drop (suc n) (e ∷ es) all = each_drop n es all.1

  each_take : (n : ℕ) (es : List Entry) → Each es → Each (take n es)
  each_take zero [] all = tt
  each_take zero (e ∷ es) all = tt
  each_take (suc n) [] all = tt
  each_take (suc n) (e ∷ es) all = (all.0, each_take n es all.1)

inside_drop : (len n : ℕ) (es : List Entry) → are_inside len es ≡ true → are_inside len (drop n es) ≡ true
inside_drop len zero [] all = refl
inside_drop len zero (e ∷ es) all = all
inside_drop len (suc n) [] all = refl
inside_drop len (suc n) (e ∷ es) all = inside_drop len n es (and_parts (lies_inside len e) (are_inside len es) all).1

inside_take : (len n : ℕ) (es : List Entry) → are_inside len es ≡ true → are_inside len (take n es) ≡ true
inside_take len zero [] all = refl
inside_take len zero (e ∷ es) all = refl
inside_take len (suc n) [] all = refl
inside_take len (suc n) (e ∷ es) all =
    let parts = and_parts (lies_inside len e) (are_inside len es) all in
    ap (λ b. b && are_inside len (take n es)) parts.0 ∙ inside_take len n es parts.1

apart_less : (n m : ℕ) (es fs : List Entry) → AreApart es fs → AreApart es (take n (drop m fs))
apart_less n m [] fs apart = tt
apart_less n m (e ∷ es) fs apart = (each_take (HaveNone e) n (drop m fs) (each_drop (HaveNone e) m fs apart.0), apart_less n m es fs apart.1)

-- the elements that a piece completes
set_is : (s : Session) (piece : List ℕ) → set_by s piece ≡ take (complete_with s piece - complete s) (drop (complete s) (placed s))
set_is s piece =
    let n : ℕ = complete_with s piece - complete s in
    sym (ap (take n) (drop-map (shift_entry s.origin) (complete s) s.elements) ∙ take-map (shift_entry s.origin) n (drop (complete s) s.elements))

module _ (s : Session) (number : ℕ) (is : IsOpen s number) (buffer piece : List ℕ) (same : length buffer ≡ s.buf_len) where
  set_inside : are_inside (length buffer) (set_by s piece) ≡ true
  set_inside =
      ap (are_inside (length buffer)) (set_is s piece)
      ∙ inside_take (length buffer) (complete_with s piece - complete s) (drop (complete s) (placed s))
      (inside_drop (length buffer) (complete s) (placed s) (ap (λ n. are_inside n (placed s)) same ∙ is.inside))

  set_enough : total s.rep (set_by s piece) ≤ length (s.held ++ piece)
  set_enough = subst (λ n. n ≤ length (s.held ++ piece)) (sym (total-shift s.rep s.origin (completed s piece))) (enough s is.before is.rest is.between piece [])

pub others_are_kept : OthersAreKept
others_are_kept s number buffer piece rep others is same inside apart =
    ap (packed rep others) (set_completed s buffer piece)
    ∙ others_kept s.rep rep (set_by s piece) others buffer (s.held ++ piece) apart (set_inside s number is buffer piece same) (set_enough s number is buffer piece same) inside

pub order_is_free : OrderIsFree
order_is_free s t m n buffer p q one two same also apart =
    let es = set_by s p in
    let fs = set_by t q in
    let away : AreApart es fs = subst (AreApart es) (sym (set_is t q)) (apart_less (complete_with t q - complete t) (complete t) es (placed t) apart) in
    let images = s.held ++ p in
    let more = t.held ++ q in
    set_completed t (buffer_after s buffer p) q
    ∙ ap (λ b. set_each t.rep fs b more) (set_completed s buffer p)
    ∙ sets_turned s.rep t.rep es fs buffer images more away (set_inside s m one buffer p same) (set_enough s m one buffer p same)
    (set_inside t n two buffer q also) (set_enough t n two buffer q also)
    ∙ sym (set_completed s (buffer_after t buffer q) p ∙ ap (λ b. set_each s.rep es b images) (set_completed t buffer q))

-- a piece leaves the buffer's length
pub length_after : (s : Session) (number : ℕ) → IsOpen s number → (buffer piece : List ℕ) → length buffer ≡ s.buf_len
    → length (buffer_after s buffer piece) ≡ length buffer
length_after s number is buffer piece same =
    ap length (set_completed s buffer piece)
    ∙ (setting_keeps_the_rest s.rep (set_by s piece) buffer (s.held ++ piece) (set_inside s number is buffer piece same) (set_enough s number is buffer piece same)).0
