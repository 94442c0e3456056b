-- Turns that are told otherwise: offset by offset.
use mir.Syntax.{w128}
use mir.Val.{to_z, of_z}
use Rattle.std.specs.Prelude.{Option, Some, None, IfSome, ◌≡◌, ℕ, zero, suc, ◌+◌, ◌*◌, ◌/◌, ◌%◌, ◌<◌, ◌≤◌, ℤ, pos, ◌+ℤ◌, ◌*ℤ◌, List, [], ◌∷◌, ◌++◌, map}
use Rattle.std.specs.List.{flat_map}
use Rattle.std.proofs.Common.{refl, sym, ap, ◌∙◌, arith, append-nil}
use Rattle.std.proofs.lemmas.Grind.{flat_map-append}
use Rattle.std.proofs.lemmas.Int.{ints, to_z-of_z}
use Rattle.std.proofs.lemmas.List.{map-append}
use Rattle.std.proofs.lemmas.List.Folds.{flat_map-map}
use Rattle.std.proofs.lemmas.Nat.{div-mul-add, mod-mul-add, div-add-mod'}
use Rattle.std.proofs.Math.Nat.{mod-lt, mul_assoc, add-mul, mul-le-mul_right}
use Rattle.dt_offsets.specs.declared.turns.Turns.{Turns}
use Rattle.dt_offsets.specs.Near.{AreTurns, IsFactor}
use Rattle.dt_offsets.specs.Offsets.{below, sums, row_offsets, turn_offset, turn_offsets}
use Rattle.dt_offsets.proofs.Rows.{in_rows_of}
use Rattle.dt_type.proofs.Times.{sum_times}
use Rattle.dt_layout.specs.Merging.{AreEven, AreSame, AreJoined}

map_below : {A : Type 0} (f g : ℕ → A) (n : ℕ) → ((q : ℕ) → q < n → f q ≡ g q) → map f (below n) ≡ map g (below n)
map_below f g zero same = refl
map_below f g (suc n) same =
    map-append f (below n) (n ∷ []) ∙ ap (λ s. s ++ f n ∷ []) (map_below f g n (λ q lt. same q (omega (arith, lt))))
    ∙ ap (λ a. map g (below n) ++ a ∷ []) (same n (omega arith)) ∙ sym (map-append g (below n) (n ∷ []))

flat_below : {A : Type 0} (f g : ℕ → List A) (n : ℕ) → ((q : ℕ) → q < n → f q ≡ g q) → flat_map f (below n) ≡ flat_map g (below n)
flat_below f g zero same = refl
flat_below f g (suc n) same =
    flat_map-append f (below n) (n ∷ []) ∙ ap (λ s. s ++ flat_map f (n ∷ [])) (flat_below f g n (λ q lt. same q (omega (arith, lt))))
    ∙ ap (λ a. flat_map g (below n) ++ (a ++ [])) (same n (omega arith)) ∙ sym (flat_map-append g (below n) (n ∷ []))

map_twice : (f : ℤ → ℤ) (g : ℕ → ℤ) (is : List ℕ) → map f (map g is) ≡ map (λ i. f (g i)) is
map_twice f g [] = refl
map_twice f g (i ∷ is) = ap (λ s. f (g i) ∷ s) (map_twice f g is)

-- turn by turn the same
pub same_turns : (t u : Turns) → u.count ≡ t.count → ((q : ℕ) → q < t.count → turn_offset u q ≡ turn_offset t q) → turn_offsets u ≡ turn_offsets t
same_turns t u count same = ap (λ n. map (turn_offset u) (below n)) count ∙ map_below (turn_offset u) (turn_offset t) t.count same

-- turn j after i whole rounds of the inner turns
pub joined_turns : (o u t : Turns) → t.count ≡ o.count * u.count → ((i j : ℕ) → i < o.count → j < u.count → turn_offset t (i * u.count + j) ≡ turn_offset o i +ℤ turn_offset u j)
    → turn_offsets t ≡ sums (turn_offsets o) (turn_offsets u)
joined_turns o u t count same =
    let n = u.count in
    let at : ℕ → ℕ → ℤ = λ i j. turn_offset t (i * n + j) in
    let whole : t.count ≡ o.count * n + 0 = omega (arith, count) in
    ap (λ k. map (turn_offset t) (below k)) whole
    ∙ map_below (turn_offset t) (λ q. at (q / n) (q % n)) (o.count * n + 0) (λ q lt. ap (turn_offset t) (sym (div-add-mod' q n)))
    ∙ in_rows_of at n o.count 0 (omega arith)
    ∙ append-nil (flat_map (λ i. map (at i) (below n)) (below o.count))
    ∙ flat_below (λ i. map (at i) (below n)) (λ i. map (λ y. turn_offset o i +ℤ y) (turn_offsets u)) o.count
    (λ i lt. map_below (at i) (λ j. turn_offset o i +ℤ turn_offset u j) n (λ j less. same i j lt less) ∙ sym (map_twice (λ y. turn_offset o i +ℤ y) (turn_offset u) (below n)))
    ∙ sym (flat_map-map (λ x. map (λ y. x +ℤ y) (turn_offsets u)) (turn_offset o) (below o.count))

-- the turn with a number, by its block and its number there
pub at_place : (t : Turns) (q i j : ℕ) → q ≡ i * t.block + j → j < t.block → turn_offset t q ≡ (t.first +ℤ (pos i *ℤ t.jump)) +ℤ (pos j *ℤ t.step)
at_place t q i j is lt =
    ap (λ k. (t.first +ℤ (pos k *ℤ t.jump)) +ℤ (pos (q % t.block) *ℤ t.step)) (ap (λ k. k / t.block) is ∙ div-mul-add i t.block j lt)
    ∙ ap (λ k. (t.first +ℤ (pos i *ℤ t.jump)) +ℤ (pos k *ℤ t.step)) (ap (λ k. k % t.block) is ∙ mod-mul-add i t.block j lt)

zero_times : (x : ℤ) → pos 0 *ℤ x ≡ pos 0
zero_times x = omega (arith, ints)

pub in_first : (t : Turns) (q : ℕ) → q < t.block → turn_offset t q ≡ t.first +ℤ (pos q *ℤ t.step)
in_first t q lt =
    at_place t q 0 q (omega arith) lt
    ∙ ap (λ z. (t.first +ℤ z) +ℤ (pos q *ℤ t.step)) (zero_times t.jump)
    ∙ ap (λ z. z +ℤ (pos q *ℤ t.step)) (let same : t.first +ℤ pos 0 ≡ t.first = omega (arith, ints) in same)

-- products of sums
pub spread : (a b : ℕ) (x : ℤ) → pos (a + b) *ℤ x ≡ (pos a *ℤ x) +ℤ (pos b *ℤ x)
spread a b x = ap (λ z. z *ℤ x) (let same : pos (a + b) ≡ pos a +ℤ pos b = omega (arith, ints) in same) ∙ sum_times (pos a) x (pos b)

pub times_times : (a b : ℕ) (x : ℤ) → pos (a * b) *ℤ x ≡ pos a *ℤ (pos b *ℤ x)
times_times zero b x = ap (λ n. pos n *ℤ x) (let none : zero * b ≡ 0 = omega arith in none) ∙ zero_times x ∙ sym (zero_times (pos b *ℤ x))
times_times (suc a) b x =
    ap (λ n. pos n *ℤ x) (let more : suc a * b ≡ a * b + b = omega arith in more) ∙ spread (a * b) b x ∙ ap (λ z. z +ℤ (pos b *ℤ x)) (times_times a b x)
    ∙ sym (ap (λ n. pos n *ℤ (pos b *ℤ x)) (let next : suc a ≡ a + 1 = omega arith in next) ∙ spread a 1 (pos b *ℤ x) ∙ ap (λ z. (pos a *ℤ (pos b *ℤ x)) +ℤ z) (one_time (pos b *ℤ x)))
  where
    one_time : (z : ℤ) → pos 1 *ℤ z ≡ z
    one_time z = omega (arith, ints)

-- evenly spaced turns
pub even_block : (t : Turns) → t.count ≤ t.block → (q : ℕ) → q < t.count → turn_offset t q ≡ t.first +ℤ (pos q *ℤ t.step)
even_block t few q lt = in_first t q (omega (arith, few, lt))

pub even_blocks : (t : Turns) (step : ℤ) → t.jump ≡ pos 0 +ℤ (pos t.block *ℤ step) → t.step ≡ step → 1 ≤ t.block → (q : ℕ) → q < t.count → turn_offset t q ≡ t.first +ℤ (pos q *ℤ step)
even_blocks t step jump same least q lt =
    let b = t.block in
    let i = q / b in
    let j = q % b in
    let split = div-add-mod' q b in
    let reach : t.jump ≡ pos b *ℤ step = jump ∙ (let none : pos 0 +ℤ (pos b *ℤ step) ≡ pos b *ℤ step = omega (arith, ints) in none) in
    let blocks : pos i *ℤ t.jump ≡ pos (i * b) *ℤ step = ap (λ z. pos i *ℤ z) reach ∙ sym (times_times i b step) in
    let whole : (pos (i * b) *ℤ step) +ℤ (pos j *ℤ step) ≡ pos q *ℤ step = sym (spread (i * b) j step) ∙ ap (λ n. pos n *ℤ step) split in
    ap (λ z. (t.first +ℤ z) +ℤ (pos j *ℤ t.step)) blocks
    ∙ ap (λ z. (t.first +ℤ (pos (i * b) *ℤ step)) +ℤ (pos j *ℤ z)) same
    ∙ after t.first (pos (i * b) *ℤ step) (pos j *ℤ step)
    ∙ ap (λ z. t.first +ℤ z) whole
  where
    after : (x y z : ℤ) → (x +ℤ y) +ℤ z ≡ x +ℤ (y +ℤ z)
    after x y z = omega (arith, ints)

pub even_ones : (t : Turns) → t.block ≡ 1 → (q : ℕ) → q < t.count → turn_offset t q ≡ t.first +ℤ (pos q *ℤ t.jump)
even_ones t single q lt =
    at_place t q q 0 (let all : q ≡ q * t.block + 0 = by_one q t.block single in all) (omega (arith, single))
    ∙ ap (λ z. (t.first +ℤ (pos q *ℤ t.jump)) +ℤ z) (zero_times t.step)
    ∙ (let same : (t.first +ℤ (pos q *ℤ t.jump)) +ℤ pos 0 ≡ t.first +ℤ (pos q *ℤ t.jump) = omega (arith, ints) in same)
  where
    by_one : (q b : ℕ) → b ≡ 1 → q ≡ q * b + 0
    by_one q b e = let all : q * b ≡ q * 1 = ap (λ n. q * n) e in omega (arith, all)

-- evenly spaced turns as one block
abbrev pub block_of : Turns → ℤ → Turns
block_of t step = record { first = t.first; count = t.count; block = t.count; jump = pos 0; step = step }

pub as_block : (t u : Turns) (step : ℤ) → AreEven t step → u ≡ block_of t step → AreTurns u → AreSame t u
as_block t u step are is turns = record {
  turns = turns;
  same =
      ap turn_offsets is
      ∙ same_turns t (block_of t step) refl (λ q lt. even_block (block_of t step) (omega arith) q lt ∙ sym (are.even q lt));
}

-- the single turn, and turns around it or in it
abbrev pub moved_by : Turns → ℤ → Turns
moved_by t x = record { first = t.first +ℤ x; count = t.count; block = t.block; jump = t.jump; step = t.step }

first_turn : (t : Turns) → 1 ≤ t.block → turn_offset t 0 ≡ t.first
first_turn t least = in_first t 0 (omega (arith, least)) ∙ ap (λ z. t.first +ℤ z) (zero_times t.step) ∙ (let same : t.first +ℤ pos 0 ≡ t.first = omega (arith, ints) in same)

moved_turn : (t : Turns) (x : ℤ) (q : ℕ) → turn_offset (moved_by t x) q ≡ turn_offset t q +ℤ x
moved_turn t x q = turned t.first x (pos (q / t.block) *ℤ t.jump) (pos (q % t.block) *ℤ t.step)
  where
    turned : (f x y z : ℤ) → ((f +ℤ x) +ℤ y) +ℤ z ≡ ((f +ℤ y) +ℤ z) +ℤ x
    turned f x y z = omega (arith, ints)

pub joined_inner : (o u t : Turns) → o.count ≡ 1 → 1 ≤ o.block → t ≡ moved_by u o.first → AreTurns t → AreJoined o u t
joined_inner o u t single least is turns = record {
  turns = turns;
  sums =
      ap turn_offsets is
      ∙ joined_turns o u (moved_by u o.first) (let all : u.count ≡ o.count * u.count = by_one o.count u.count single in all)
      (λ i j lt less. ap (turn_offset (moved_by u o.first)) (at_none i (i * u.count + j) j lt less (place i u.count j))
      ∙ moved_turn u o.first j ∙ turned (turn_offset u j) o.first ∙ ap (λ z. z +ℤ turn_offset u j) (sym (first_turn o least)) ∙ ap (λ k. turn_offset o k +ℤ turn_offset u j) (sym (none i lt)));
}
  where
    by_one : (n k : ℕ) → n ≡ 1 → k ≡ n * k
    by_one n k e = let all : n * k ≡ 1 * k = ap (λ m. m * k) e in omega (arith, all)

    none : (i : ℕ) → i < o.count → i ≡ 0
    none i lt = omega (arith, lt, single)

    place : (i n j : ℕ) → i * n + j ≡ i * n + j
    place i n j = refl

    at_none : (i q j : ℕ) → i < o.count → j < u.count → q ≡ i * u.count + j → q ≡ j
    at_none i q j lt less e = let rest : i * u.count ≡ 0 * u.count = ap (λ k. k * u.count) (none i lt) in omega (arith, e, rest)

    turned : (x y : ℤ) → x +ℤ y ≡ y +ℤ x
    turned x y = omega (arith, ints)

pub joined_outer : (o u t : Turns) → u.count ≡ 1 → 1 ≤ u.block → t ≡ moved_by o u.first → AreTurns t → AreJoined o u t
joined_outer o u t single least is turns = record {
  turns = turns;
  sums =
      ap turn_offsets is
      ∙ joined_turns o u (moved_by o u.first) (let all : o.count ≡ o.count * u.count = by_one o.count u.count single in all)
      (λ i j lt less. ap (turn_offset (moved_by o u.first)) (at i j less) ∙ moved_turn o u.first i ∙ ap (λ z. turn_offset o i +ℤ z) (sym (first_turn u least))
      ∙ ap (λ k. turn_offset o i +ℤ turn_offset u k) (sym (none j less)));
}
  where
    by_one : (n k : ℕ) → k ≡ 1 → n ≡ n * k
    by_one n k e = let all : n * k ≡ n * 1 = ap (λ m. n * m) e in omega (arith, all)

    none : (j : ℕ) → j < u.count → j ≡ 0
    none j lt = omega (arith, lt, single)

    at : (i j : ℕ) → j < u.count → i * u.count + j ≡ i
    at i j less = let all : i * u.count ≡ i * 1 = ap (λ k. i * k) single in let zeroth = none j less in omega (arith, all, zeroth)

-- longer blocks
abbrev pub long_block : Turns → Turns → ℤ → Turns
long_block o u step = record { first = o.first +ℤ u.first; count = o.count * u.count; block = o.block * u.count; jump = o.jump; step = step }

no_first : (x y : ℤ) → x ≡ pos 0 +ℤ y → x ≡ y
no_first x y e = omega (arith, ints, e)

pub joined_long : (o u t : Turns) (step : ℤ) → o.step ≡ pos 0 +ℤ (pos u.count *ℤ step) → AreEven u step → 1 ≤ o.block → t ≡ long_block o u step → AreTurns t → AreJoined o u t
joined_long o u t step fills even least is turns = record { turns = turns; sums = ap turn_offsets is ∙ joined_turns o u (long_block o u step) refl (λ i j lt less. each i j less) }
  where
    split : (i b n j : ℕ) → i * n + j ≡ (i / b) * (b * n) + (i % b * n + j)
    split i b n j =
        let whole : i * n ≡ (i / b * b + i % b) * n = ap (λ k. k * n) (sym (div-add-mod' i b)) in
        let parts = add-mul (i / b * b) (i % b) n in
        let blocks = mul_assoc (i / b) b n in
        omega (arith, whole, parts, blocks)

    room : (k b n j : ℕ) → k < b → j < n → k * n + j < b * n
    room k b n j lt less = let more : suc k * n ≤ b * n = mul-le-mul_right n lt in omega (arith, more, less)

    regroup : (f g a k d : ℤ) → ((f +ℤ g) +ℤ a) +ℤ (k +ℤ d) ≡ ((f +ℤ a) +ℤ k) +ℤ (g +ℤ d)
    regroup f g a k d = omega (arith, ints)

    each : (i j : ℕ) → j < u.count → turn_offset (long_block o u step) (i * u.count + j) ≡ turn_offset o i +ℤ turn_offset u j
    each i j less =
        let n = u.count in
        let b = o.block in
        let k = i % b in
        let jumps = pos (i / b) *ℤ o.jump in
        let steps : pos (k * n) *ℤ step ≡ pos k *ℤ o.step = times_times k n step ∙ ap (λ z. pos k *ℤ z) (sym (no_first o.step (pos n *ℤ step) fills)) in
        at_place (long_block o u step) (i * n + j) (i / b) (k * n + j) (split i b n j) (room k b n j (mod-lt i least) less)
        ∙ ap (λ z. ((o.first +ℤ u.first) +ℤ jumps) +ℤ z) (spread (k * n) j step ∙ ap (λ z. z +ℤ (pos j *ℤ step)) steps)
        ∙ regroup o.first u.first jumps (pos k *ℤ o.step) (pos j *ℤ step)
        ∙ ap (λ z. turn_offset o i +ℤ z) (sym (even.even j less))

-- more blocks
abbrev pub many_blocks : Turns → Turns → Turns
many_blocks o u = record { first = o.first +ℤ u.first; count = o.count * u.count; block = u.block; jump = u.jump; step = u.step }

pub joined_many : (o u t : Turns) (step : ℤ) → AreEven o step → step ≡ pos 0 +ℤ (pos (u.count / u.block) *ℤ u.jump) → u.count / u.block * u.block ≡ u.count → 1 ≤ u.block → t ≡ many_blocks o u → AreTurns t → AreJoined o u t
joined_many o u t step even fills whole least is turns = record { turns = turns; sums = ap turn_offsets is ∙ joined_turns o u (many_blocks o u) refl (λ i j lt less. each i j lt) }
  where
    split : (i n b m j : ℕ) → b * m ≡ n → i * n + j ≡ (i * b + j / m) * m + j % m
    split i n b m j e =
        let rounds : i * n ≡ i * (b * m) = ap (λ k. i * k) (sym e) in
        let parts = add-mul (i * b) (j / m) m in
        let blocks = mul_assoc i b m in
        let rest = div-add-mod' j m in
        omega (arith, rounds, parts, blocks, rest)

    regroup : (f g a k d : ℤ) → ((f +ℤ g) +ℤ (a +ℤ k)) +ℤ d ≡ (f +ℤ a) +ℤ ((g +ℤ k) +ℤ d)
    regroup f g a k d = omega (arith, ints)

    each : (i j : ℕ) → i < o.count → turn_offset (many_blocks o u) (i * u.count + j) ≡ turn_offset o i +ℤ turn_offset u j
    each i j lt =
        let m = u.block in
        let b = u.count / m in
        let rest = pos (j % m) *ℤ u.step in
        let jumps : pos (i * b) *ℤ u.jump ≡ pos i *ℤ step = times_times i b u.jump ∙ ap (λ z. pos i *ℤ z) (sym (no_first step (pos b *ℤ u.jump) fills)) in
        at_place (many_blocks o u) (i * u.count + j) (i * b + j / m) (j % m) (split i u.count b m j whole) (mod-lt j least)
        ∙ ap (λ z. ((o.first +ℤ u.first) +ℤ z) +ℤ rest) (spread (i * b) (j / m) u.jump ∙ ap (λ z. z +ℤ (pos (j / m) *ℤ u.jump)) jumps)
        ∙ regroup o.first u.first (pos i *ℤ step) (pos (j / m) *ℤ u.jump) rest
        ∙ ap (λ z. z +ℤ turn_offset u j) (sym (even.even i lt))

-- blocks of evenly spaced turns, evenly spaced
abbrev pub two_steps : Turns → Turns → ℤ → ℤ → Turns
two_steps o u jump step = record { first = o.first +ℤ u.first; count = o.count * u.count; block = u.count; jump = jump; step = step }

pub joined_two : (o u t : Turns) (jump step : ℤ) → AreEven o jump → AreEven u step → t ≡ two_steps o u jump step → AreTurns t → AreJoined o u t
joined_two o u t jump step even inner is turns = record { turns = turns; sums = ap turn_offsets is ∙ joined_turns o u (two_steps o u jump step) refl each }
  where
    regroup : (f g a d : ℤ) → ((f +ℤ g) +ℤ a) +ℤ d ≡ (f +ℤ a) +ℤ (g +ℤ d)
    regroup f g a d = omega (arith, ints)

    each : (i j : ℕ) → i < o.count → j < u.count → turn_offset (two_steps o u jump step) (i * u.count + j) ≡ turn_offset o i +ℤ turn_offset u j
    each i j lt less =
        at_place (two_steps o u jump step) (i * u.count + j) i j refl less
        ∙ regroup o.first u.first (pos i *ℤ jump) (pos j *ℤ step)
        ∙ ap (λ z. z +ℤ (u.first +ℤ (pos j *ℤ step))) (sym (even.even i lt))
        ∙ ap (λ z. turn_offset o i +ℤ z) (sym (inner.even j less))

-- numbers of 128 bits, read back, and answers that are passed on
pub sum_back : (x y : ℤ) → IsFactor x → IsFactor y → to_z w128 (of_z w128 (x +ℤ y)) ≡ x +ℤ y
sum_back x y small less = to_z-of_z w128 (x +ℤ y) (omega (arith, ints))

pub if_some : {A : Type 0} (P Q : A → Type 0) → ((x : A) → P x → Q x) → (answer : Option A) → IfSome answer P → IfSome answer Q
if_some P Q f None h = tt
if_some P Q f (Some x) h = f x h

pub row_turns : (t : Turns) (first step : ℤ) (count : ℕ) → t.first ≡ first → t.step ≡ step → t.count ≡ count → t.count ≤ t.block → turn_offsets t ≡ row_offsets first count step
row_turns t first step count same even counted few =
    ap (λ n. map (turn_offset t) (below n)) counted
    ∙ map_below (turn_offset t) (λ j. first +ℤ (pos j *ℤ step)) count
    (λ q lt. even_block t few q (omega (arith, lt, counted)) ∙ ap (λ z. z +ℤ (pos q *ℤ t.step)) same ∙ ap (λ z. first +ℤ (pos q *ℤ z)) even)
