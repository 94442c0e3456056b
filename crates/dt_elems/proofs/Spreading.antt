-- Offsets that are spread, and copies at them that have no byte in common.
use Rattle.std.proofs.Common.{◌≡◌, ℕ, zero, suc, ◌+◌, ◌-◌, ◌*◌, ◌/◌, ◌%◌, ◌≤◌, ◌<◌, min, ◌⊎◌, inl, inr, Option, Some, None, unwrap_or, ℤ, pos, negsuc, ◌+ℤ◌, ◌-ℤ◌, ◌*ℤ◌, ◌≤ℤ◌, neg_ℤ, List, [], ◌∷◌, ◌++◌, map, length, get_or, refl, sym, ap, ◌∙◌, subst, arith}
use Rattle.std.specs.Int.{int_min, int_max}
use Rattle.std.specs.List.{AllByRecursion, flat_map, HoldsAt}
use Rattle.std.proofs.lemmas.Bool.{cases_lt}
use Rattle.std.proofs.lemmas.Int.{ints, clamps}
use Rattle.std.proofs.Math.Nat.{mod-lt, mul-le-mul_right, div-eq_of_lt, div-mul-le_self}
use Rattle.std.proofs.lemmas.Nat.{div-add-mod', le-div}
use Rattle.std.proofs.lemmas.List.{map-append}
use Rattle.std.proofs.lemmas.List.Folds.{flat_map-map}
use Rattle.dt_map.specs.declared.entry.Entry.{Entry}
use Rattle.dt_map.specs.Bounds.{end_of, true_lb, true_ub, extent_of}
use Rattle.dt_map.specs.Constructors.{copies_at}
use Rattle.dt_map.specs.Elements.{elements, IsByteOf, Overlaps}
use Rattle.dt_map.specs.Typemap.{Marked, shift, shift_entry}
use Rattle.dt_offsets.specs.declared.marks.Marks.{Marks}
use Rattle.dt_offsets.specs.declared.turns.Turns.{Turns}
use Rattle.dt_offsets.specs.Offsets.{below, row_offsets, turn_offset, turn_offsets, sums}
use Rattle.dt_offsets.specs.Span.{reach_of, joined_marks, spans}
use Rattle.dt_offsets.proofs.NearNumbers.{all_append, all_below, all_at}
use Rattle.dt_type.proofs.ShapeNumbers.{all_more}
use Rattle.dt_elems.proofs.Cuts.{entries-copies}
use Rattle.dt_elems.proofs.Inside.{span_of_some}
use Rattle.dt_elems.specs.Apart.{AreClear, AreApart, AreFar, AreSpread, AreWithin}

-- all of a list
pub all_map : {X Y : Type 0} (Q : Y → Type 0) (g : X → Y) (xs : List X) → AllByRecursion (λ x. Q (g x)) xs → AllByRecursion Q (map g xs)
all_map Q g [] h = tt
all_map Q g (x ∷ xs) h = (h.0, all_map Q g xs h.1)

pub all_joined : {X Y : Type 0} (Q : Y → Type 0) (f : X → List Y) (xs : List X) → AllByRecursion (λ x. AllByRecursion Q (f x)) xs → AllByRecursion Q (flat_map f xs)
all_joined Q f [] h = tt
all_joined Q f (x ∷ xs) h = all_append Q (f x) (flat_map f xs) h.0 (all_joined Q f xs h.1)

pub all_by : {X : Type 0} (P : X → Type 0) (xs : List X) → ((i : ℕ) (d : X) → i < length xs → P (get_or xs i d)) → AllByRecursion P xs
all_by P [] f = tt
all_by P (x ∷ xs) f = (f 0 x (omega arith), all_by P xs (λ i d lt. f (suc i) d (omega arith)))

-- joined lists, where no two members of the one and the other are near
pub spread-append : (room : ℤ) (xs ys : List ℤ) → AreSpread room xs → AreSpread room ys → AllByRecursion (λ x. AllByRecursion (AreFar room x) ys) xs → AreSpread room (xs ++ ys)
spread-append room [] ys h k far = k
spread-append room (x ∷ xs) ys h k far = (all_append (AreFar room x) xs ys h.0 far.0, spread-append room xs ys h.1 k far.1)

pub apart-append : (es fs : List Entry) → AreApart es → AreApart fs → AllByRecursion (λ e. AllByRecursion (AreClear e) fs) es → AreApart (es ++ fs)
apart-append [] fs h k clear = k
apart-append (e ∷ es) fs h k clear = (all_append (AreClear e) es fs h.0 clear.0, apart-append es fs h.1 k clear.1)

-- offsets by their numbers
pub spread_below : (room : ℤ) (f : ℕ → ℤ) (n : ℕ) → ((i j : ℕ) → i < j → j < n → AreFar room (f i) (f j)) → AreSpread room (map f (below n))
spread_below room f zero far = tt
spread_below room f (suc n) far =
    subst (AreSpread room) (sym (map-append f (below n) (n ∷ [])))
    (spread-append room (map f (below n)) (f n ∷ []) (spread_below room f n (λ i j lt within. far i j lt (omega arith))) (tt, tt)
    (all_below (λ x. AllByRecursion (AreFar room x) (f n ∷ [])) f n (λ i lt. (far i n lt (omega arith), tt))))

-- even steps that are at least as long
abbrev pub IsLong : ℤ → ℤ → Type 0
IsLong room step = (room ≤ℤ step) ⊎ (room ≤ℤ neg_ℤ step)

steps_up : (first : ℤ) (room i d : ℕ) (step : ℤ) → pos room ≤ℤ step → ((first +ℤ (pos i *ℤ step)) +ℤ pos room) ≤ℤ (first +ℤ (pos (i + suc d) *ℤ step))
steps_up first room i d (pos s) long = omega (arith, ints)
steps_up first room i d (negsuc s) long = absurd (omega (arith, ints))

steps_down : (first : ℤ) (room i d : ℕ) (step : ℤ) → pos room ≤ℤ neg_ℤ step → ((first +ℤ (pos (i + suc d) *ℤ step)) +ℤ pos room) ≤ℤ (first +ℤ (pos i *ℤ step))
steps_down first room i d (pos zero) long = let none : (i + suc d) * zero ≡ 0 = omega arith in let nowhere : i * zero ≡ 0 = omega arith in omega (arith, ints)
steps_down first room i d (pos (suc s)) long = absurd (omega (arith, ints))
steps_down first room i d (negsuc s) long = omega (arith, ints)

row_far : (first step : ℤ) (room : ℕ) → IsLong (pos room) step → (i j : ℕ) → i < j → AreFar (pos room) (first +ℤ (pos i *ℤ step)) (first +ℤ (pos j *ℤ step))
row_far first step room (inl up) i j lt =
    let is : i + suc (j - suc i) ≡ j = omega arith in
    inl (subst (λ k. ((first +ℤ (pos i *ℤ step)) +ℤ pos room) ≤ℤ (first +ℤ (pos k *ℤ step))) is (steps_up first room i (j - suc i) step up))
row_far first step room (inr down) i j lt =
    let is : i + suc (j - suc i) ≡ j = omega arith in
    inr (subst (λ k. ((first +ℤ (pos k *ℤ step)) +ℤ pos room) ≤ℤ (first +ℤ (pos i *ℤ step))) is (steps_down first room i (j - suc i) step down))

pub far_row : (first step room : ℤ) → pos 0 ≤ℤ room → IsLong room step → (i j : ℕ) → i < j → AreFar room (first +ℤ (pos i *ℤ step)) (first +ℤ (pos j *ℤ step))
far_row first step (pos room) some long i j lt = row_far first step room long i j lt
far_row first step (negsuc room) some long i j lt = absurd (omega (arith, ints))

pub spread_row : (first step : ℤ) (n : ℕ) (room : ℤ) → pos 0 ≤ℤ room → (n ≤ 1) ⊎ IsLong room step → AreSpread room (row_offsets first n step)
spread_row first step n room some (inl few) = spread_below room (λ j. first +ℤ (pos j *ℤ step)) n (λ i j lt within. absurd (omega arith))
spread_row first step n room some (inr long) = spread_below room (λ j. first +ℤ (pos j *ℤ step)) n (λ i j lt within. far_row first step room some long i j lt)

-- offsets x bytes further on
spread_further : (room x : ℤ) (ys : List ℤ) → AreSpread room ys → AreSpread room (map (λ y. x +ℤ y) ys)
spread_further room x [] h = tt
spread_further room x (y ∷ ys) h =
    (all_map (AreFar room (x +ℤ y)) (λ z. x +ℤ z) ys (all_more (AreFar room y) (λ z. AreFar room (x +ℤ y) (x +ℤ z)) further ys h.0), spread_further room x ys h.1)
  where
    further : (z : ℤ) → AreFar room y z → AreFar room (x +ℤ y) (x +ℤ z)
    further z (inl up) = inl (omega (arith, ints))
    further z (inr down) = inr (omega (arith, ints))

-- sums of offsets of which the outer ones leave room for the whole of the inner ones
far_sum : (room whole x z y w : ℤ) → AreFar whole x z → ((y -ℤ w) +ℤ room) ≤ℤ whole → ((w -ℤ y) +ℤ room) ≤ℤ whole → AreFar room (x +ℤ y) (z +ℤ w)
far_sum room whole x z y w (inl up) a b = inl (omega (arith, ints))
far_sum room whole x z y w (inr down) a b = inr (omega (arith, ints))

two_within : (room whole : ℤ) (xs : List ℤ) → AreWithin room whole xs → (i j : ℕ) (d e : ℤ) → i < length xs → j < length xs → ((get_or xs j e -ℤ get_or xs i d) +ℤ room) ≤ℤ whole
two_within room whole xs within i j d e lt lt' =
    all_at (λ y. ((y -ℤ get_or xs i d) +ℤ room) ≤ℤ whole) xs j e (all_at (λ x. AllByRecursion (λ y. ((y -ℤ x) +ℤ room) ≤ℤ whole) xs) xs i d within lt) lt'

far_sums : (room whole x : ℤ) (xs ys : List ℤ) → AllByRecursion (AreFar whole x) xs → AreWithin room whole ys → AllByRecursion (λ y. AllByRecursion (AreFar room (x +ℤ y)) (sums xs ys)) ys
far_sums room whole x xs ys far within =
    all_by (λ y. AllByRecursion (AreFar room (x +ℤ y)) (sums xs ys)) ys (λ i d lt.
    let y = get_or ys i d in
    all_joined (AreFar room (x +ℤ y)) (λ z. map (λ w. z +ℤ w) ys) xs
    (all_more (AreFar whole x) (λ z. AllByRecursion (AreFar room (x +ℤ y)) (map (λ w. z +ℤ w) ys)) (λ z apart.
    all_map (AreFar room (x +ℤ y)) (λ w. z +ℤ w) ys
    (all_by (λ w. AreFar room (x +ℤ y) (z +ℤ w)) ys (λ j e lt'.
    far_sum room whole x z y (get_or ys j e) apart (two_within room whole ys within j i e d lt' lt) (two_within room whole ys within i j d e lt lt')))) xs far))

pub spread_sums : (room whole : ℤ) (xs ys : List ℤ) → AreSpread whole xs → AreSpread room ys → AreWithin room whole ys → AreSpread room (sums xs ys)
spread_sums room whole [] ys far spread within = tt
spread_sums room whole (x ∷ xs) ys far spread within =
    spread-append room (map (λ y. x +ℤ y) ys) (sums xs ys) (spread_further room x ys spread) (spread_sums room whole xs ys far.1 spread within)
    (all_map (λ a. AllByRecursion (AreFar room a) (sums xs ys)) (λ y. x +ℤ y) ys (far_sums room whole x xs ys far.0 within))

-- what a span says of its members
abbrev Fits : {X : Type 0} → (X → Marks) → ℤ → ℤ → X → Type 0
Fits f low high x = (low ≤ℤ (f x).lb) × ((f x).ub ≤ℤ high)

module _ {X : Type 0} (f : X → Marks) where
  abbrev span : List X → Option Marks
  span xs = spans (λ x. Some (f x)) xs

  joined_first : (x : X) (rest : Option Marks) (low high : ℤ) → joined_marks (Some (f x)) rest ≡ Some (record { lb = low; ub = high }) → Fits f low high x
  joined_first x None low high is = let lb : (f x).lb ≡ low = ap (λ o. (unwrap_or o (f x)).lb) is in let ub : (f x).ub ≡ high = ap (λ o. (unwrap_or o (f x)).ub) is in (omega (arith, ints), omega (arith, ints))
  joined_first x (Some r) low high is =
      let lb : int_min (f x).lb r.lb ≡ low = ap (λ o. (unwrap_or o (f x)).lb) is in
      let ub : int_max (f x).ub r.ub ≡ high = ap (λ o. (unwrap_or o (f x)).ub) is in
      (omega (arith, ints, clamps), omega (arith, ints, clamps))

  joined_more : (x : X) (r : Marks) (low high : ℤ) → joined_marks (Some (f x)) (Some r) ≡ Some (record { lb = low; ub = high }) → (y : X) → Fits f r.lb r.ub y → Fits f low high y
  joined_more x r low high is y h =
      let lb : int_min (f x).lb r.lb ≡ low = ap (λ o. (unwrap_or o (f x)).lb) is in
      let ub : int_max (f x).ub r.ub ≡ high = ap (λ o. (unwrap_or o (f x)).ub) is in
      let above = h.0 in
      let below = h.1 in
      (omega (arith, ints, clamps), omega (arith, ints, clamps))

  joined_some : (a : Marks) (s : Option Marks) → joined_marks (Some a) s ≡ None → ⊥
  joined_some a None e = cc
  joined_some a (Some b) e = cc

  span_none : (xs : List X) → span xs ≡ None → xs ≡ []
  span_none [] none = refl
  span_none (x ∷ xs) none = absurd (joined_some (f x) (span xs) none)

  none_or_span : (o : Option Marks) → (o ≡ None) ⊎ ((m : Marks) × (o ≡ Some m))
  none_or_span None = inl refl
  none_or_span (Some m) = inr (m, refl)

  pub all_fit : (xs : List X) (low high : ℤ) → span xs ≡ Some (record { lb = low; ub = high }) → AllByRecursion (Fits f low high) xs
  all_fit [] low high is = tt
  all_fit (x ∷ xs) low high is = (
    joined_first x (span xs) low high is,
    elim (none_or_span (span xs)) [
      | inl none ↦ subst (AllByRecursion (Fits f low high)) (sym (span_none xs none)) tt
      | inr some ↦
          let known : joined_marks (Some (f x)) (Some some.0) ≡ Some (record { lb = low; ub = high }) = ap (joined_marks (Some (f x))) (sym some.1) ∙ is in
          all_more (Fits f some.0.lb some.0.ub) (Fits f low high) (joined_more x some.0 low high known) xs (all_fit xs some.0.lb some.0.ub some.1)
    ],
  )

abbrev pub IsBetween : ℤ → ℤ → ℤ → Type 0
IsBetween low high x = (low ≤ℤ x) × (x ≤ℤ high)

pub between_reach : (xs : List ℤ) (low high : ℤ) → reach_of xs ≡ Some (record { lb = low; ub = high }) → AllByRecursion (IsBetween low high) xs
between_reach xs low high is = all_fit (λ x. let m : Marks = record { lb = x; ub = x } in m) xs low high is

pub reach_none : (xs : List ℤ) → reach_of xs ≡ None → xs ≡ []
reach_none xs none = span_none (λ x. let m : Marks = record { lb = x; ub = x } in m) xs none

pub within_none : (room whole : ℤ) (xs : List ℤ) → reach_of xs ≡ None → AreWithin room whole xs
within_none room whole xs none = subst (AreWithin room whole) (sym (reach_none xs none)) tt

-- offsets between two ends, with room behind each
pub within_ends : (room low high : ℤ) (xs : List ℤ) → AllByRecursion (IsBetween low high) xs → AreWithin room ((room +ℤ high) -ℤ low) xs
within_ends room low high xs all =
    all_more (IsBetween low high) (λ x. AllByRecursion (λ y. ((y -ℤ x) +ℤ room) ≤ℤ ((room +ℤ high) -ℤ low)) xs)
    (λ x at. all_more (IsBetween low high) (λ y. ((y -ℤ x) +ℤ room) ≤ℤ ((room +ℤ high) -ℤ low)) (λ y to. near x y at to) xs all) xs all
  where
    near : (x y : ℤ) → IsBetween low high x → IsBetween low high y → ((y -ℤ x) +ℤ room) ≤ℤ ((room +ℤ high) -ℤ low)
    near x y at to = let above = at.0 in let below = to.1 in omega (arith, ints)

pub within_sums : (room mid whole : ℤ) (xs ys : List ℤ) → AreWithin mid whole xs → AreWithin room mid ys → AreWithin room whole (sums xs ys)
within_sums room mid whole xs ys outer inner =
    all_joined (λ a. AllByRecursion (λ b. ((b -ℤ a) +ℤ room) ≤ℤ whole) (sums xs ys)) (λ x. map (λ y. x +ℤ y) ys) xs
    (all_by (λ x. AllByRecursion (λ a. AllByRecursion (λ b. ((b -ℤ a) +ℤ room) ≤ℤ whole) (sums xs ys)) (map (λ y. x +ℤ y) ys)) xs (λ k f at.
    all_map (λ a. AllByRecursion (λ b. ((b -ℤ a) +ℤ room) ≤ℤ whole) (sums xs ys)) (λ y. get_or xs k f +ℤ y) ys
    (all_by (λ y. AllByRecursion (λ b. ((b -ℤ (get_or xs k f +ℤ y)) +ℤ room) ≤ℤ whole) (sums xs ys)) ys (λ i d lt.
    all_joined (λ b. ((b -ℤ (get_or xs k f +ℤ get_or ys i d)) +ℤ room) ≤ℤ whole) (λ z. map (λ w. z +ℤ w) ys) xs
    (all_by (λ z. AllByRecursion (λ b. ((b -ℤ (get_or xs k f +ℤ get_or ys i d)) +ℤ room) ≤ℤ whole) (map (λ w. z +ℤ w) ys)) xs (λ l g at'.
    all_map (λ b. ((b -ℤ (get_or xs k f +ℤ get_or ys i d)) +ℤ room) ≤ℤ whole) (λ w. get_or xs l g +ℤ w) ys
    (all_by (λ w. (((get_or xs l g +ℤ w) -ℤ (get_or xs k f +ℤ get_or ys i d)) +ℤ room) ≤ℤ whole) ys (λ j e lt'.
    near (get_or xs k f) (get_or xs l g) (get_or ys i d) (get_or ys j e) (two_within mid whole xs outer k l f g at at') (two_within room mid ys inner i j d e lt lt')))))))))
  where
    near : (x z y w : ℤ) → ((z -ℤ x) +ℤ mid) ≤ℤ whole → ((w -ℤ y) +ℤ room) ≤ℤ mid → (((z +ℤ w) -ℤ (x +ℤ y)) +ℤ room) ≤ℤ whole
    near x z y w far close = omega (arith, ints)

pub ordered_reach : (xs : List ℤ) (low high : ℤ) → reach_of xs ≡ Some (record { lb = low; ub = high }) → low ≤ℤ high
ordered_reach [] low high is = cc
ordered_reach (x ∷ xs) low high is = let h = (between_reach (x ∷ xs) low high is).0 in let above = h.0 in let below = h.1 in omega (arith, ints)

-- turns: one in a block leaves room to the next, and a block leaves room to the next block
slack : (step whole room : ℤ) (n r s : ℕ) → r ≤ n → s ≤ n → (room +ℤ (pos n *ℤ step)) ≤ℤ whole → (room -ℤ (pos n *ℤ step)) ≤ℤ whole → ((room +ℤ (pos r *ℤ step)) -ℤ (pos s *ℤ step)) ≤ℤ whole
slack (pos k) whole room n r s le le' up down = let few : r * k ≤ n * k = mul-le-mul_right k le in omega (arith, ints)
slack (negsuc k) whole room n r s le le' up down = let few : s * suc k ≤ n * suc k = mul-le-mul_right (suc k) le' in omega (arith, ints)

far_blocks : (a b step whole room : ℤ) (n r s : ℕ) → r ≤ n → s ≤ n → (room +ℤ (pos n *ℤ step)) ≤ℤ whole → (room -ℤ (pos n *ℤ step)) ≤ℤ whole
    → AreFar whole a b → AreFar room (a +ℤ (pos r *ℤ step)) (b +ℤ (pos s *ℤ step))
far_blocks a b step whole room n r s le le' up down (inl before) = let h = slack step whole room n r s le le' up down in inl (omega (arith, ints))
far_blocks a b step whole room n r s le le' up down (inr after) = let h = slack step whole room n s r le' le up down in inr (omega (arith, ints))

whole_some : (room p whole : ℤ) → pos 0 ≤ℤ room → (room +ℤ p) ≤ℤ whole → (room -ℤ p) ≤ℤ whole → pos 0 ≤ℤ whole
whole_some room p whole some up down = omega (arith, ints)

record Blocks (t : Turns) (room : ℤ) (row : ℕ) : Type 0 where
  whole : ℤ
  up : (room +ℤ (pos (row - 1) *ℤ t.step)) ≤ℤ whole
  down : (room -ℤ (pos (row - 1) *ℤ t.step)) ≤ℤ whole
  long : IsLong whole t.jump

module _ (t : Turns) (room : ℤ) (some : pos 0 ≤ℤ room) (least : 1 ≤ t.block) (row : ℕ) (is : row ≡ min t.count t.block) (rows : (row ≤ 1) ⊎ IsLong room t.step) where
  same_block : (i j : ℕ) → i < j → j < t.count → i / t.block ≡ j / t.block → AreFar room (turn_offset t i) (turn_offset t j)
  same_block i j lt within same =
      let parts_i = div-add-mod' i t.block in
      let parts_j = div-add-mod' j t.block in
      let product = ap (λ q. q * t.block) same in
      let less : i % t.block < j % t.block = omega arith in
      let cut = mod-lt j least in
      elim rows [
        | inl few ↦ absurd (omega arith)
        | inr long ↦
            subst (λ q. AreFar room (turn_offset t i) ((t.first +ℤ (pos q *ℤ t.jump)) +ℤ (pos (j % t.block) *ℤ t.step))) same
            (far_row (t.first +ℤ (pos (i / t.block) *ℤ t.jump)) t.step room some long (i % t.block) (j % t.block) less)
      ]

  other_block : Blocks t room row → t.block < t.count → (i j : ℕ) → i / t.block < j / t.block → AreFar room (turn_offset t i) (turn_offset t j)
  other_block blocks more i j lt =
      let cut_i = mod-lt i least in
      let cut_j = mod-lt j least in
      far_blocks (t.first +ℤ (pos (i / t.block) *ℤ t.jump)) (t.first +ℤ (pos (j / t.block) *ℤ t.jump)) t.step blocks.whole room (row - 1) (i % t.block) (j % t.block) (omega arith) (omega arith) blocks.up blocks.down
      (far_row t.first t.jump blocks.whole (whole_some room (pos (row - 1) *ℤ t.step) blocks.whole some blocks.up blocks.down) blocks.long (i / t.block) (j / t.block) lt)

  pub spread_one_block : t.count ≤ t.block → AreSpread room (turn_offsets t)
  spread_one_block few =
      spread_below room (turn_offset t) t.count (λ i j lt within.
      let none_i : i / t.block ≡ 0 = div-eq_of_lt (omega arith) in
      let none_j : j / t.block ≡ 0 = div-eq_of_lt (omega arith) in
      same_block i j lt within (none_i ∙ sym none_j))

  pub spread_blocks : t.block < t.count → (whole : ℤ) → (room +ℤ (pos (row - 1) *ℤ t.step)) ≤ℤ whole → (room -ℤ (pos (row - 1) *ℤ t.step)) ≤ℤ whole → IsLong whole t.jump → AreSpread room (turn_offsets t)
  spread_blocks more whole up down long =
      spread_below room (turn_offset t) t.count (λ i j lt within.
      elim (cases_lt (i / t.block) (j / t.block)) [
        | inl less ↦ other_block (record { whole = whole; up = up; down = down; long = long }) more i j less
        | inr from ↦
            let whole_i = div-mul-le_self i t.block in
            let rising : i / t.block ≤ j / t.block = le-div (i / t.block) j t.block least (omega arith) in
            same_block i j lt within (omega arith)
      ])

-- entries between their true bounds
abbrev pub IsWithin : ℤ → ℤ → Entry → Type 0
IsWithin low high e = (low ≤ℤ e.disp) × (end_of e ≤ℤ high)

pub within_true : (es : List Entry) → AllByRecursion (IsWithin (true_lb es) (true_ub es)) es
within_true [] = tt
within_true (e ∷ es) =
    all_fit (λ (e : Entry). let m : Marks = record { lb = e.disp; ub = end_of e } in m) (e ∷ es) (true_lb (e ∷ es)) (true_ub (e ∷ es)) (span_of_some (e ∷ es) (omega arith))

-- copies that are spread
apart_further : (x : ℤ) (es : List Entry) → AreApart es → AreApart (shift x es)
apart_further x [] h = tt
apart_further x (e ∷ es) h = (all_map (AreClear (shift_entry x e)) (shift_entry x) es (all_more (AreClear e) (λ f. AreClear (shift_entry x e) (shift_entry x f)) further es h.0), apart_further x es h.1)
  where
    further : (f : Entry) → AreClear e f → AreClear (shift_entry x e) (shift_entry x f)
    further f (inl up) = inl (omega (arith, ints))
    further f (inr down) = inr (omega (arith, ints))

clear_copies : (low high x z : ℤ) (e f : Entry) → IsWithin low high e → IsWithin low high f → AreFar (high -ℤ low) x z → AreClear (shift_entry x e) (shift_entry z f)
clear_copies low high x z e f at to (inl up) = let a = at.0 in let b = at.1 in let c = to.0 in let d = to.1 in inl (omega (arith, ints))
clear_copies low high x z e f at to (inr down) = let a = at.0 in let b = at.1 in let c = to.0 in let d = to.1 in inr (omega (arith, ints))

pub apart_copies : (low high : ℤ) (es : List Entry) → AreApart es → AllByRecursion (IsWithin low high) es → (xs : List ℤ) → AreSpread (high -ℤ low) xs → AreApart (flat_map (λ x. shift x es) xs)
apart_copies low high es apart within [] spread = tt
apart_copies low high es apart within (x ∷ xs) spread =
    apart-append (shift x es) (flat_map (λ z. shift z es) xs) (apart_further x es apart) (apart_copies low high es apart within xs spread.1)
    (all_map (λ e. AllByRecursion (AreClear e) (flat_map (λ z. shift z es) xs)) (shift_entry x) es
    (all_more (IsWithin low high) (λ e. AllByRecursion (AreClear (shift_entry x e)) (flat_map (λ z. shift z es) xs)) (λ e at.
    all_joined (AreClear (shift_entry x e)) (λ z. shift z es) xs
    (all_more (AreFar (high -ℤ low) x) (λ z. AllByRecursion (AreClear (shift_entry x e)) (shift z es)) (λ z far.
    all_map (AreClear (shift_entry x e)) (shift_entry z) es
    (all_more (IsWithin low high) (λ f. AreClear (shift_entry x e) (shift_entry z f)) (λ f to. clear_copies low high x z e f at to far) es within)) xs spread.0)) es within))

pub apart_placed : (xs : List ℤ) (m : Marked) → AreApart m.entries → AreSpread (true_ub m.entries -ℤ true_lb m.entries) xs → AreApart (copies_at xs m).entries
apart_placed xs m apart spread =
    subst AreApart (sym (entries-copies xs m)) (apart_copies (true_lb m.entries) (true_ub m.entries) m.entries apart (within_true m.entries) xs spread)

pub apart_elements : (m : Marked) (count : ℕ) (origin : ℤ) → AreApart m.entries → AreSpread (true_ub m.entries -ℤ true_lb m.entries) (row_offsets origin count (extent_of m)) → AreApart (elements m count origin)
apart_elements m count origin apart spread =
    subst AreApart (flat_map-map (λ x. shift x m.entries) (λ i. origin +ℤ (pos i *ℤ extent_of m)) (below count))
    (apart_copies (true_lb m.entries) (true_ub m.entries) m.entries apart (within_true m.entries) (row_offsets origin count (extent_of m)) spread)

-- what is apart doesn't overlap
clear_byte : (e f : Entry) (x : ℤ) → AreClear e f → IsByteOf x e → IsByteOf x f → ⊥
clear_byte e f x (inl up) on at = let a = on.1 in let b = at.0 in omega (arith, ints)
clear_byte e f x (inr down) on at = let a = on.0 in let b = at.1 in omega (arith, ints)

apart_at : (es : List Entry) → AreApart es → (i j : ℕ) (x : ℤ) → i < j → j < length es → HoldsAt (IsByteOf x) es i → HoldsAt (IsByteOf x) es j → ⊥
apart_at [] apart i j x lt within on_i on_j = omega arith
apart_at (e ∷ es) apart i zero x lt within on_i on_j = omega arith
apart_at (e ∷ es) apart zero (suc j) x lt within on_i on_j = clear_byte e (get_or es j e) x (all_at (AreClear e) es j e apart.0 (omega arith)) (on_i e) (on_j e)
apart_at (e ∷ es) apart (suc i) (suc j) x lt within on_i on_j = apart_at es apart.1 i j x (omega arith) (omega arith) on_i on_j

pub never_overlaps : (es : List Entry) → AreApart es → Overlaps es → ⊥
never_overlaps es apart over = apart_at es apart over.0 over.1 over.2 over.3 over.4 over.5 over.6

-- what follows behind
pub apart_behind : (next : ℤ) (es fs : List Entry) → AreApart es → AllByRecursion (λ e. end_of e ≤ℤ next) es → AreApart fs → AllByRecursion (λ f. next ≤ℤ f.disp) fs → AreApart (es ++ fs)
apart_behind next es fs apart ends after starts =
    apart-append es fs apart after
    (all_more (λ e. end_of e ≤ℤ next) (λ e. AllByRecursion (AreClear e) fs) (λ e end. all_more (λ (f : Entry). next ≤ℤ f.disp) (AreClear e) (λ f start. inl (omega (arith, ints))) fs starts) es ends)

pub spread_behind : (room next : ℤ) (xs ys : List ℤ) → AreSpread room xs → AllByRecursion (λ x. (x +ℤ room) ≤ℤ next) xs → AreSpread room ys → AllByRecursion (λ y. next ≤ℤ y) ys → AreSpread room (xs ++ ys)
spread_behind room next xs ys spread ends after starts =
    spread-append room xs ys spread after
    (all_more (λ x. (x +ℤ room) ≤ℤ next) (λ x. AllByRecursion (AreFar room x) ys) (λ x end. all_more (λ (y : ℤ). next ≤ℤ y) (AreFar room x) (λ y start. inl (omega (arith, ints))) ys starts) xs ends)
