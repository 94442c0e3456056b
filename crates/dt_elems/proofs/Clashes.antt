-- Elements overlap exactly where one of them doesn't find its bytes free; and so do more bytes than there are.
use Rattle.std.proofs.Common.{◌≡◌, ℕ, zero, suc, ◌+◌, ◌-◌, ◌≤◌, ◌<◌, Bool, true, false, not, cond, ◌⊎◌, inl, inr, Option, Some, None, ℤ, pos, negsuc, ◌+ℤ◌, ◌≤ℤ◌, ◌<ℤ◌, nat_abs, List, [], ◌∷◌, ◌++◌, take, drop, length, get_or, replicate, refl, sym, ap, ◌∙◌, subst, arith, length-append, length-drop}
use Rattle.std.specs.List.{list_any, HoldsAt}
use Rattle.std.proofs.lemmas.Bool.{cases_lt, and_parts}
use Rattle.std.proofs.lemmas.Int.{ints}
use Rattle.std.proofs.lemmas.List.{length-take-le, length-replicate, get_or-replicate, get_or_append_left, get_or-append_right, get_or-take, get_or-drop, take-append-drop, drop-drop}
use Rattle.std.proofs.lemmas.List.Sums.{sum_by-cons}
use Rattle.dt_kinds.specs.declared.kind.Rep.TheVariants.{Native}
use Rattle.dt_kinds.specs.Kind.{native_size, packed_size}
use Rattle.dt_map.specs.declared.entry.Entry.{Entry}
use Rattle.dt_map.specs.Elements.{lies_inside, are_inside, IsByteOf, Overlaps}
use Rattle.dt_map.specs.Packed.{total}
use Rattle.dt_elems.specs.Taking.{are_free, with_bytes, with_elements}

-- where an element lies
pub record Lies (len : ℕ) (e : Entry) : Type 0 where
  pub starts : e.disp ≡ pos (nat_abs e.disp)
  pub ends : nat_abs e.disp + native_size e.kind ≤ len

at_natural : (disp : ℤ) (size len : ℕ) → pos 0 ≤ℤ disp → (disp +ℤ pos size) ≤ℤ pos len → (disp ≡ pos (nat_abs disp)) × (nat_abs disp + size ≤ len)
at_natural (pos n) size len low high = (refl, omega (arith, ints))
at_natural (negsuc n) size len low high = absurd (omega (arith, ints))

pub lies : (len : ℕ) (e : Entry) → lies_inside len e ≡ true → Lies len e
lies len e h =
    let here = at_natural e.disp (native_size e.kind) len (grind (arith, ints)) (grind (arith, ints)) in
    record { starts = here.0; ends = here.1 }

-- marks among marks
any_false : (bs : List Bool) (k : ℕ) → list_any (λ b. b) bs ≡ false → get_or bs k false ≡ false
any_false [] k none = refl
any_false (true ∷ bs) k none = cc
any_false (false ∷ bs) zero none = refl
any_false (false ∷ bs) (suc k) none = any_false bs k none

any_true : (bs : List Bool) → list_any (λ b. b) bs ≡ true → (k : ℕ) × (k < length bs) × (get_or bs k false ≡ true)
any_true [] some = cc
any_true (true ∷ bs) some = (0, omega arith, refl)
any_true (false ∷ bs) some = let found = any_true bs some in (suc found.0, (let lt = found.1 in omega arith), found.2)

not_true : (b : Bool) → not b ≡ true → b ≡ false
not_true true e = cc
not_true false e = refl

not_false : (b : Bool) → not b ≡ false → b ≡ true
not_false true e = refl
not_false false e = cc

module _ (taken : List Bool) (start size : ℕ) (fits : start + size ≤ length taken) where
  front : length (take start taken) ≡ start
  front = length-take-le start taken (omega arith)

  pub length-with_bytes : length (with_bytes taken start size) ≡ length taken
  length-with_bytes =
      omega (arith, front, length-append (take start taken) (replicate size true ++ drop (start + size) taken), length-append (replicate size true) (drop (start + size) taken), length-replicate size true, length-drop (start + size) taken)

  pub with_before : (x : ℕ) → x < start → get_or (with_bytes taken start size) x false ≡ get_or taken x false
  with_before x before =
      let long = front in
      get_or_append_left (take start taken) (replicate size true ++ drop (start + size) taken) false x (omega arith) ∙ get_or-take start taken x false before

  pub with_in : (x : ℕ) → start ≤ x → x < start + size → get_or (with_bytes taken start size) x false ≡ true
  with_in x from to =
      let marks = length-replicate size true in
      get_or-append_right (take start taken) (replicate size true ++ drop (start + size) taken) start x false front from
      ∙ get_or_append_left (replicate size true) (drop (start + size) taken) false (x - start) (omega arith)
      ∙ get_or-replicate size (x - start) true false (omega arith)

  pub with_after : (x : ℕ) → start + size ≤ x → get_or (with_bytes taken start size) x false ≡ get_or taken x false
  with_after x after =
      let place : (start + size) + ((x - start) - size) ≡ x = omega arith in
      get_or-append_right (take start taken) (replicate size true ++ drop (start + size) taken) start x false front (omega arith)
      ∙ get_or-append_right (replicate size true) (drop (start + size) taken) size (x - start) false (length-replicate size true) (omega arith)
      ∙ get_or-drop (start + size) taken ((x - start) - size) false
      ∙ ap (λ k. get_or taken k false) place

  with_keeps : (x : ℕ) → get_or taken x false ≡ true → get_or (with_bytes taken start size) x false ≡ true
  with_keeps x marked =
      elim (cases_lt x start) [
        | inl before ↦ with_before x before ∙ marked
        | inr from ↦ elim (cases_lt x (start + size)) [ inl to ↦ with_in x from to | inr after ↦ with_after x after ∙ marked ]
      ]

  with_adds : (x : ℕ) → get_or (with_bytes taken start size) x false ≡ true → (get_or taken x false ≡ true) ⊎ ((start ≤ x) × (x < start + size))
  with_adds x marked =
      elim (cases_lt x start) [
        | inl before ↦ inl (sym (with_before x before) ∙ marked)
        | inr from ↦ elim (cases_lt x (start + size)) [ inl to ↦ inr (from, to) | inr after ↦ inl (sym (with_after x after) ∙ marked) ]
      ]

  piece_at : (k : ℕ) → k < size → get_or (take size (drop start taken)) k false ≡ get_or taken (start + k) false
  piece_at k lt = get_or-take size (drop start taken) k false lt ∙ get_or-drop start taken k false

  pub free_at : are_free taken start size ≡ true → (x : ℕ) → start ≤ x → x < start + size → get_or taken x false ≡ false
  free_at free x from to =
      let none = not_true (list_any (λ b. b) (take size (drop start taken))) free in
      let place : start + (x - start) ≡ x = omega arith in
      ap (λ k. get_or taken k false) (sym place) ∙ sym (piece_at (x - start) (omega arith)) ∙ any_false (take size (drop start taken)) (x - start) none

  found_at : are_free taken start size ≡ false → (x : ℕ) × (start ≤ x) × (x < start + size) × (get_or taken x false ≡ true)
  found_at some =
      let found = any_true (take size (drop start taken)) (not_false (list_any (λ b. b) (take size (drop start taken))) some) in
      let long : length (take size (drop start taken)) ≡ size = length-take-le size (drop start taken) (omega (arith, length-drop start taken)) in
      let within = found.1 in
      (start + found.0, omega arith, omega arith, sym (piece_at found.0 (omega arith)) ∙ found.2)

-- a byte of some element
abbrev pub Covers : ℤ → List Entry → Type 0
Covers x es = (i : ℕ) × (i < length es) × HoldsAt (IsByteOf x) es i

-- elements that overlap, or have a byte that was taken before
abbrev pub Clash : List Bool → List Entry → Type 0
Clash taken es = Overlaps es ⊎ ((x : ℕ) × (get_or taken x false ≡ true) × Covers (pos x) es)

byte_is : (disp x : ℤ) (at size : ℕ) → disp ≡ pos at → disp ≤ℤ x → x <ℤ (disp +ℤ pos size) → (x ≡ pos (nat_abs x)) × (at ≤ nat_abs x) × (nat_abs x < at + size)
byte_is disp (pos n) at size is low high = (refl, omega (arith, ints), omega (arith, ints))
byte_is disp (negsuc n) at size is low high = absurd (omega (arith, ints))

is_byte : (disp : ℤ) (at size x : ℕ) → disp ≡ pos at → at ≤ x → x < at + size → (disp ≤ℤ pos x) × (pos x <ℤ (disp +ℤ pos size))
is_byte disp at size x is from to = (omega (arith, ints), omega (arith, ints))

abbrev start_of : Entry → ℕ
start_of e = nat_abs e.disp

abbrev size_of : Entry → ℕ
size_of e = native_size e.kind

abbrev with_one : List Bool → Entry → List Bool
with_one taken e = with_bytes taken (start_of e) (size_of e)

-- one element more that finds its bytes free
covers_later : (x : ℤ) (e : Entry) (es : List Entry) → Covers x es → Covers x (e ∷ es)
covers_later x e es h = (suc h.0, (let lt = h.1 in omega arith), h.2)

overlaps_later : (e : Entry) (es : List Entry) → Overlaps es → Overlaps (e ∷ es)
overlaps_later e es h = (suc h.0, suc h.1, h.2, (let lt = h.3 in omega arith), (let lt = h.4 in omega arith), h.5, h.6)

overlaps_first : (x : ℤ) (e : Entry) (es : List Entry) → IsByteOf x e → Covers x es → Overlaps (e ∷ es)
overlaps_first x e es here h = (0, suc h.0, x, omega arith, (let lt = h.1 in omega arith), (λ d. here), h.2)

clash_more : (taken : List Bool) (e : Entry) (es : List Entry) → Lies (length taken) e → Clash (with_one taken e) es → Clash taken (e ∷ es)
clash_more taken e es here (inl over) = inl (overlaps_later e es over)
clash_more taken e es here (inr h) =
    elim (with_adds taken (start_of e) (size_of e) here.ends h.0 h.1) [
      | inl before ↦ inr (h.0, before, covers_later (pos h.0) e es h.2)
      | inr now ↦ inl (overlaps_first (pos h.0) e es (is_byte e.disp (start_of e) (size_of e) h.0 here.starts now.0 now.1) h.2)
    ]

clash_found : (taken : List Bool) (e : Entry) (es : List Entry) → Lies (length taken) e → are_free taken (start_of e) (size_of e) ≡ false → Clash taken (e ∷ es)
clash_found taken e es here some =
    let h = found_at taken (start_of e) (size_of e) here.ends some in
    inr (h.0, h.3, (0, omega arith, λ d. is_byte e.disp (start_of e) (size_of e) h.0 here.starts h.1 h.2))

module _ (taken : List Bool) (e : Entry) (es : List Entry) (here : Lies (length taken) e) (free : are_free taken (start_of e) (size_of e) ≡ true) (clear : Clash (with_one taken e) es → ⊥) where
  clear_first : (x : ℤ) → IsByteOf x e → Covers x es → ⊥
  clear_first x on h =
      let at = byte_is e.disp x (start_of e) (size_of e) here.starts on.0 on.1 in
      clear (inr (nat_abs x, with_in taken (start_of e) (size_of e) here.ends (nat_abs x) at.1 at.2, subst (λ z. Covers z es) at.0 h))

  clear_overlaps : (i j : ℕ) (x : ℤ) → i < j → j < length (e ∷ es) → HoldsAt (IsByteOf x) (e ∷ es) i → HoldsAt (IsByteOf x) (e ∷ es) j → ⊥
  clear_overlaps i zero x lt within on_i on_j = absurd (omega arith)
  clear_overlaps zero (suc j) x lt within on_i on_j = clear_first x (on_i e) (j, omega arith, on_j)
  clear_overlaps (suc i) (suc j) x lt within on_i on_j = clear (inl (i, j, x, omega arith, omega arith, on_i, on_j))

  clear_marked : (x : ℕ) → get_or taken x false ≡ true → (i : ℕ) → i < length (e ∷ es) → HoldsAt (IsByteOf (pos x)) (e ∷ es) i → ⊥
  clear_marked x marked zero within on =
      let byte = on e in
      let at = byte_is e.disp (pos x) (start_of e) (size_of e) here.starts byte.0 byte.1 in
      let none = free_at taken (start_of e) (size_of e) here.ends free x at.1 at.2 in
      cc
  clear_marked x marked (suc i) within on =
      clear (inr (x, with_keeps taken (start_of e) (size_of e) here.ends x marked, (i, omega arith, on)))

  clear_more : Clash taken (e ∷ es) → ⊥
  clear_more (inl h) = clear_overlaps h.0 h.1 h.2 h.3 h.4 h.5 h.6
  clear_more (inr h) = clear_marked h.0 h.1 h.2.0 h.2.1 h.2.2

-- where all lie inside, so do the rest after the first was taken
rest_inside : (taken : List Bool) (e : Entry) (es : List Entry) → Lies (length taken) e → are_inside (length taken) es ≡ true → are_inside (length (with_one taken e)) es ≡ true
rest_inside taken e es here inside = ap (λ len. are_inside len es) (length-with_bytes taken (start_of e) (size_of e) here.ends) ∙ inside

pub true_or_false : (b : Bool) → (b ≡ true) ⊎ (b ≡ false)
true_or_false true = inl refl
true_or_false false = inr refl

pub clash_from_none : (taken : List Bool) (es : List Entry) → are_inside (length taken) es ≡ true → with_elements taken es ≡ None → Clash taken es
clash_from_none taken [] inside none = cc
clash_from_none taken (e ∷ es) inside none =
    let parts = and_parts (lies_inside (length taken) e) (are_inside (length taken) es) inside in
    let here = lies (length taken) e parts.0 in
    elim (true_or_false (are_free taken (start_of e) (size_of e))) [
      | inl free ↦
          clash_more taken e es here (clash_from_none (with_one taken e) es (rest_inside taken e es here parts.1)
          (sym (ap (λ b. cond b (with_elements (with_one taken e) es) None) free) ∙ none))
      | inr some ↦ clash_found taken e es here some
    ]

no_clash : (taken : List Bool) → Clash taken [] → ⊥
no_clash taken (inl h) = let lt = h.4 in omega arith
no_clash taken (inr h) = let lt = h.2.1 in omega arith

pub clear_from_some : (taken : List Bool) (es : List Entry) (new : List Bool) → are_inside (length taken) es ≡ true → with_elements taken es ≡ Some new → Clash taken es → ⊥
clear_from_some taken [] new inside some clash = no_clash taken clash
clear_from_some taken (e ∷ es) new inside some clash =
    let parts = and_parts (lies_inside (length taken) e) (are_inside (length taken) es) inside in
    let here = lies (length taken) e parts.0 in
    elim (true_or_false (are_free taken (start_of e) (size_of e))) [
      | inl free ↦
          clear_more taken e es here free
          (clear_from_some (with_one taken e) es new (rest_inside taken e es here parts.1)
          (sym (ap (λ b. cond b (with_elements (with_one taken e) es) None) free) ∙ some))
          clash
      | inr found ↦
          let gone : None ≡ Some new = sym (ap (λ b. cond b (with_elements (with_one taken e) es) None) found) ∙ some in
          cc
    ]

-- from a set without a byte on
free_before : (len x : ℕ) → get_or (replicate len false) x false ≡ true → ⊥
free_before zero x e = cc
free_before (suc len) zero e = cc
free_before (suc len) (suc x) e = free_before len x e

pub overlaps_from_none : (len : ℕ) (es : List Entry) → are_inside len es ≡ true → with_elements (replicate len false) es ≡ None → Overlaps es
overlaps_from_none len es inside none =
    let long = length-replicate len false in
    elim (clash_from_none (replicate len false) es (ap (λ n. are_inside n es) long ∙ inside) none) [
      | inl over ↦ over
      | inr h ↦ absurd (free_before len h.0 h.1)
    ]

pub apart_from_some : (len : ℕ) (es : List Entry) (new : List Bool) → are_inside len es ≡ true → with_elements (replicate len false) es ≡ Some new → Overlaps es → ⊥
apart_from_some len es new inside some over =
    let long = length-replicate len false in
    clear_from_some (replicate len false) es new (ap (λ n. are_inside n es) long ∙ inside) some (inl over)

-- how many bytes are taken
abbrev marks : List Bool → ℕ
marks [] = 0
marks (b ∷ bs) = cond b 1 0 + marks bs

marks-append : (bs cs : List Bool) → marks (bs ++ cs) ≡ marks bs + marks cs
marks-append [] cs = omega arith
marks-append (b ∷ bs) cs = omega (arith, marks-append bs cs)

marks-replicate : (n : ℕ) → marks (replicate n true) ≡ n
marks-replicate zero = refl
marks-replicate (suc n) = omega (arith, marks-replicate n)

marks-free : (n : ℕ) → marks (replicate n false) ≡ 0
marks-free zero = refl
marks-free (suc n) = omega (arith, marks-free n)

marks-none : (bs : List Bool) → list_any (λ b. b) bs ≡ false → marks bs ≡ 0
marks-none [] none = refl
marks-none (true ∷ bs) none = cc
marks-none (false ∷ bs) none = omega (arith, marks-none bs none)

marks-le : (bs : List Bool) → marks bs ≤ length bs
marks-le [] = omega arith
marks-le (true ∷ bs) = omega (arith, marks-le bs)
marks-le (false ∷ bs) = omega (arith, marks-le bs)

in_three : (bs : List Bool) (start size : ℕ) → marks bs ≡ marks (take start bs) + (marks (take size (drop start bs)) + marks (drop (start + size) bs))
in_three bs start size =
    ap marks (sym (take-append-drop start bs)) ∙ marks-append (take start bs) (drop start bs)
    ∙ ap (λ n. marks (take start bs) + n)
    (ap marks (sym (take-append-drop size (drop start bs))) ∙ marks-append (take size (drop start bs)) (drop size (drop start bs))
    ∙ ap (λ ds. marks (take size (drop start bs)) + marks ds) (drop-drop size start bs))

marks-with : (taken : List Bool) (start size : ℕ) → are_free taken start size ≡ true → marks (with_bytes taken start size) ≡ marks taken + size
marks-with taken start size free =
    let none = marks-none (take size (drop start taken)) (not_true (list_any (λ b. b) (take size (drop start taken))) free) in
    omega (arith, in_three taken start size, none, marks-append (take start taken) (replicate size true ++ drop (start + size) taken), marks-append (replicate size true) (drop (start + size) taken), marks-replicate size)

total-cons : (e : Entry) (es : List Entry) → total Native (e ∷ es) ≡ native_size e.kind + total Native es
total-cons e es = sum_by-cons (λ (e : Entry). packed_size Native e.kind) e es

marks-elements : (taken : List Bool) (es : List Entry) (new : List Bool) → are_inside (length taken) es ≡ true → with_elements taken es ≡ Some new
    → (marks new ≡ marks taken + total Native es) × (length new ≡ length taken)
marks-elements taken [] new inside some =
    let same : taken ≡ new = cc in
    (sym (ap marks same) ∙ omega arith, sym (ap length same))
marks-elements taken (e ∷ es) new inside some =
    let parts = and_parts (lies_inside (length taken) e) (are_inside (length taken) es) inside in
    let here = lies (length taken) e parts.0 in
    elim (true_or_false (are_free taken (start_of e) (size_of e))) [
      | inl free ↦
          let rest = marks-elements (with_one taken e) es new (rest_inside taken e es here parts.1)
          (sym (ap (λ b. cond b (with_elements (with_one taken e) es) None) free) ∙ some) in
          let more = marks-with taken (start_of e) (size_of e) free in
          let long = length-with_bytes taken (start_of e) (size_of e) here.ends in
          let sum = total-cons e es in
          let marks_rest = rest.0 in
          let long_rest = rest.1 in
          (omega arith, omega arith)
      | inr found ↦
          let gone : None ≡ Some new = sym (ap (λ b. cond b (with_elements (with_one taken e) es) None) found) ∙ some in
          cc
    ]

none_or_some : {X : Type 0} (o : Option X) → (o ≡ None) ⊎ ((x : X) × (o ≡ Some x))
none_or_some None = inl refl
none_or_some (Some x) = inr (x, refl)

-- elements of more bytes than there are overlap
pub overlaps_from_size : (len : ℕ) (es : List Entry) → are_inside len es ≡ true → len < total Native es → Overlaps es
overlaps_from_size len es inside large =
    let long = length-replicate len false in
    elim (none_or_some (with_elements (replicate len false) es)) [
      | inl none ↦ overlaps_from_none len es inside none
      | inr some ↦
          let all = marks-elements (replicate len false) es some.0 (ap (λ n. are_inside n es) long ∙ inside) some.1 in
          let few = marks-le some.0 in
          let free = marks-free len in
          let marks_all = all.0 in
          let long_all = all.1 in
          absurd (omega arith)
    ]
