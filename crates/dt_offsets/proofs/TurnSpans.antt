-- The span of turns: that of their whole blocks, and that of the turns in the last block.
use Rattle.std.specs.Prelude.{◌≡◌, ℕ, ◌+◌, ◌*◌, ◌/◌, ◌%◌, ◌<◌, ◌≤◌, ℤ, pos, ◌+ℤ◌, ◌*ℤ◌, List, [], ◌∷◌, map, ◌++◌}
use Rattle.std.specs.List.{flat_map}
use Rattle.std.proofs.Common.{refl, ap, ◌∙◌, arith}
use Rattle.std.proofs.lemmas.Int.{ints}
use Rattle.std.proofs.Math.Nat.{mod-lt}
use Rattle.dt_offsets.specs.Offsets.{sums, below, row_offsets, turn_offset, turn_offsets}
use Rattle.dt_offsets.specs.Span.{joined_marks, point, reach_of, stretched}
use Rattle.dt_offsets.proofs.Rows.{in_rows_of}
use Rattle.dt_offsets.proofs.Spans.{reach_of_sums, spans-append}
use Rattle.dt_offsets.specs.declared.turns.Turns.{Turns}

abbrev pub whole_blocks : ℤ → ℕ → ℤ → ℕ → ℤ → List ℤ
whole_blocks first blocks jump block step = flat_map (λ i. row_offsets (first +ℤ (pos i *ℤ jump)) block step) (below blocks)

-- a row begun elsewhere
row-further : (x step : ℤ) (n : ℕ) → row_offsets x n step ≡ map (λ y. x +ℤ y) (row_offsets (pos 0) n step)
row-further x step n = same (below n)
  where
    same : (js : List ℕ) → map (λ j. x +ℤ (pos j *ℤ step)) js ≡ map (λ y. x +ℤ y) (map (λ j. pos 0 +ℤ (pos j *ℤ step)) js)
    same [] = refl
    same (j ∷ js) =
        let here : x +ℤ (pos j *ℤ step) ≡ x +ℤ (pos 0 +ℤ (pos j *ℤ step)) = omega (arith, ints) in
        ap (λ y. y ∷ map (λ j. x +ℤ (pos j *ℤ step)) js) here ∙ ap (λ ys. (x +ℤ (pos 0 +ℤ (pos j *ℤ step))) ∷ ys) (same js)

blocks-sums : (first jump : ℤ) (block : ℕ) (step : ℤ) (is : List ℕ)
    → flat_map (λ i. row_offsets (first +ℤ (pos i *ℤ jump)) block step) is ≡ sums (map (λ i. first +ℤ (pos i *ℤ jump)) is) (row_offsets (pos 0) block step)
blocks-sums first jump block step [] = refl
blocks-sums first jump block step (i ∷ is) =
    let start = first +ℤ (pos i *ℤ jump) in
    ap (λ ys. ys ++ flat_map (λ i. row_offsets (first +ℤ (pos i *ℤ jump)) block step) is) (row-further start step block)
    ∙ ap (λ ys. map (λ y. start +ℤ y) (row_offsets (pos 0) block step) ++ ys) (blocks-sums first jump block step is)

blocks-reach : (first : ℤ) (blocks : ℕ) (jump : ℤ) (block : ℕ) (step : ℤ)
    → reach_of (whole_blocks first blocks jump block step) ≡ stretched (reach_of (row_offsets first blocks jump)) (reach_of (row_offsets (pos 0) block step))
blocks-reach first blocks jump block step =
    ap reach_of (blocks-sums first jump block step (below blocks)) ∙ reach_of_sums (row_offsets first blocks jump) (row_offsets (pos 0) block step)

turns-rows : (t : Turns) → 1 ≤ t.block
    → turn_offsets t ≡ whole_blocks t.first (t.count / t.block) t.jump t.block t.step ++ row_offsets (t.first +ℤ (pos (t.count / t.block) *ℤ t.jump)) (t.count % t.block) t.step
turns-rows t h =
    let split : t.count ≡ t.count / t.block * t.block + t.count % t.block = omega arith in
    let rest : t.count % t.block < t.block = mod-lt t.count (omega arith) in
    ap (λ k. map (turn_offset t) (below k)) split
    ∙ in_rows_of (λ i j. (t.first +ℤ (pos i *ℤ t.jump)) +ℤ (pos j *ℤ t.step)) t.block (t.count / t.block) (t.count % t.block) (omega arith)

pub turns-reach : (t : Turns) → 1 ≤ t.block
    → reach_of (turn_offsets t)
    ≡ joined_marks (stretched (reach_of (row_offsets t.first (t.count / t.block) t.jump)) (reach_of (row_offsets (pos 0) t.block t.step)))
    (reach_of (row_offsets (t.first +ℤ (pos (t.count / t.block) *ℤ t.jump)) (t.count % t.block) t.step))
turns-reach t h =
    let rest = reach_of (row_offsets (t.first +ℤ (pos (t.count / t.block) *ℤ t.jump)) (t.count % t.block) t.step) in
    ap reach_of (turns-rows t h)
    ∙ spans-append point (whole_blocks t.first (t.count / t.block) t.jump t.block t.step) (row_offsets (t.first +ℤ (pos (t.count / t.block) *ℤ t.jump)) (t.count % t.block) t.step)
    ∙ ap (λ s. joined_marks s rest) (blocks-reach t.first (t.count / t.block) t.jump t.block t.step)
