-- Spans of rows and turns stay within 128 bits.
use Rattle.std.specs.Prelude.{Option, Some, None, ℕ, zero, suc, ◌+◌, ◌*◌, ◌/◌, ◌%◌, ◌^◌, ◌<◌, ◌≤◌, ℤ, pos, ◌+ℤ◌, ◌*ℤ◌, nat_abs, List, [], ◌∷◌, ◌++◌, map, length, take, get_or}
use Rattle.std.specs.List.{AllByRecursion}
use Rattle.std.proofs.Common.{sym, subst, arith}
use Rattle.std.proofs.lemmas.Int.{ints, clamps}
use Rattle.std.proofs.lemmas.List.{map-append, take_all}
use Rattle.std.proofs.Math.Nat.{mod-lt, div-le_of_le-mul, div-lt_iff_lt-mul, mul-le-mul_right}
use Rattle.dt_offsets.specs.declared.marks.Marks.{Marks}
use Rattle.dt_offsets.specs.declared.turns.Turns.{Turns}
use Rattle.dt_offsets.specs.Near.{IsFactor, AreTurnsWithin, AreTurns, IsNear, IsNearSpan, StayNear}
use Rattle.dt_offsets.specs.Offsets.{below, row_offsets, turn_offset, turn_offsets, grid_offsets}
use Rattle.dt_offsets.specs.Span.{joined_marks, point, reach_of}
use Rattle.dt_offsets.proofs.Products.{product_near}

pub joined_near : (a b : Option Marks) → IsNearSpan a → IsNearSpan b → IsNearSpan (joined_marks a b)
joined_near None b h k = k
joined_near (Some a) None h k = h
joined_near (Some a) (Some b) h k = (omega (arith, ints, clamps), omega (arith, ints, clamps))

-- offsets that are near
pub reach_near : (xs : List ℤ) → AllByRecursion IsNear xs → IsNearSpan (reach_of xs)
reach_near [] h = tt
reach_near (x ∷ xs) h = joined_near (point x) (reach_of xs) (h.0, h.0) (reach_near xs h.1)

pub all_append : {X : Type 0} (P : X → Type 0) (xs ys : List X) → AllByRecursion P xs → AllByRecursion P ys → AllByRecursion P (xs ++ ys)
all_append P [] ys h k = k
all_append P (x ∷ xs) ys h k = (h.0, all_append P xs ys h.1 k)

pub all_below : (P : ℤ → Type 0) (f : ℕ → ℤ) (n : ℕ) → ((q : ℕ) → q < n → P (f q)) → AllByRecursion P (map f (below n))
all_below P f zero h = tt
all_below P f (suc n) h =
    subst (AllByRecursion P) (sym (map-append f (below n) (n ∷ [])))
    (all_append P (map f (below n)) (f n ∷ []) (all_below P f n (λ q k. h q (omega arith))) (h n (omega arith), tt))

pub all_at : {X : Type 0} (P : X → Type 0) (xs : List X) (i : ℕ) (d : X) → AllByRecursion P xs → i < length xs → P (get_or xs i d)
all_at P [] i d h lt = absurd (omega arith)
all_at P (x ∷ xs) zero d h lt = h.0
all_at P (x ∷ xs) (suc i) d h lt = all_at P xs i d h.1 (omega arith)

pub row_near : (first step : ℤ) (n : ℕ) → IsFactor step → nat_abs first + n * 2 ^ 93 < 2 ^ 126 → IsNearSpan (reach_of (row_offsets first n step))
row_near first step n factor near =
    reach_near (row_offsets first n step) (all_below IsNear (λ j. first +ℤ (pos j *ℤ step)) n
    (λ j h. let p = product_near j step factor in omega (arith, ints)))

-- turns in smaller blocks
pub within_more : (m n : ℕ) → m ≤ n → (t : Turns) → AreTurnsWithin m t → AreTurnsWithin n t
within_more m n le t turns = record {
  first = turns.first;
  jump = turns.jump;
  step = turns.step;
  least = turns.least;
  most = let most = turns.most in omega arith;
  count = let count = turns.count in let more : m * t.block ≤ n * t.block = mul-le-mul_right t.block le in omega arith;
}

-- the block of a turn is one of at most so many
block_of : (t : Turns) → AreTurns t → (q : ℕ) → q < t.count → q / t.block < 2 ^ 32
block_of t turns q h = let least = turns.least in let count = turns.count in (div-lt_iff_lt-mul (omega arith)).1 (omega arith)

pub blocks_of : (t : Turns) → AreTurns t → t.count / t.block ≤ 2 ^ 32
blocks_of t turns = let count = turns.count in div-le_of_le-mul t.block (omega arith)

pub turn_near : (t : Turns) → AreTurns t → (q : ℕ) → q < t.count → IsNear (turn_offset t q)
turn_near t turns q h =
    let first = turns.first in
    let most = turns.most in
    let least = turns.least in
    let jump = product_near (q / t.block) t.jump turns.jump in
    let step = product_near (q % t.block) t.step turns.step in
    let block = block_of t turns q h in
    let rest : q % t.block < t.block = mod-lt q (omega arith) in
    omega (arith, ints)

pub turns_near : (t : Turns) → AreTurns t → IsNearSpan (reach_of (turn_offsets t))
turns_near t turns = reach_near (turn_offsets t) (all_below IsNear (turn_offset t) t.count (turn_near t turns))

-- where the last block of turns begins, and how far its turns may reach
pub last_near : (t : Turns) → AreTurns t → nat_abs (t.first +ℤ (pos (t.count / t.block) *ℤ t.jump)) + t.count % t.block * 2 ^ 93 < 2 ^ 126
last_near t turns =
    let first = turns.first in
    let most = turns.most in
    let least = turns.least in
    let blocks = blocks_of t turns in
    let jump = product_near (t.count / t.block) t.jump turns.jump in
    let rest : t.count % t.block < t.block = mod-lt t.count (omega arith) in
    omega (arith, ints)

pub outer_near : (t : Turns) → AreTurns t → IsNearSpan (reach_of (row_offsets t.first (t.count / t.block) t.jump))
outer_near t turns =
    let first = turns.first in
    let blocks = blocks_of t turns in
    row_near t.first t.jump (t.count / t.block) turns.jump (omega arith)

pub inner_near : (t : Turns) → AreTurns t → IsNearSpan (reach_of (row_offsets (pos 0) t.block t.step))
inner_near t turns = let most = turns.most in row_near (pos 0) t.step t.block turns.step (omega (arith, ints))

-- where the block of a turn begins, and how far its turns may reach
pub turn_block_near : (t : Turns) → AreTurns t → (q : ℕ) → q < t.count → nat_abs (t.first +ℤ (pos (q / t.block) *ℤ t.jump)) + q % t.block * 2 ^ 93 < 2 ^ 126
turn_block_near t turns q h =
    let first = turns.first in
    let most = turns.most in
    let least = turns.least in
    let block = block_of t turns q h in
    let jump = product_near (q / t.block) t.jump turns.jump in
    let rest : q % t.block < t.block = mod-lt q (omega arith) in
    omega (arith, ints)

-- nested turns stay within 128 bits on the way to each next one, and to the last
pub grid_near : (turns : List Turns) → StayNear turns → (i : ℕ) → IsNearSpan (reach_of (grid_offsets (take i turns)))
grid_near turns near i = reach_near (grid_offsets (take i turns)) (near i)

pub grid_whole_near : (turns : List Turns) → StayNear turns → IsNearSpan (reach_of (grid_offsets turns))
grid_whole_near turns near =
    subst (λ (ts : List Turns). IsNearSpan (reach_of (grid_offsets ts))) (take_all (length turns) turns (omega arith)) (grid_near turns near (length turns))
