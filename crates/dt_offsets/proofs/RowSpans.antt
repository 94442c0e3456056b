-- The span of a row of copies has the first and the last one as its ends.
use Rattle.std.specs.Prelude.{◌≡◌, Option, Some, ℕ, zero, suc, ◌-◌, ℤ, pos, ◌+ℤ◌, ◌*ℤ◌}
use Rattle.std.specs.Int.{int_min, int_max}
use Rattle.std.proofs.Common.{refl, sym, ap, ◌∙◌, arith}
use Rattle.dt_offsets.specs.declared.marks.Marks.{Marks}
use Rattle.dt_offsets.specs.Span.{reach_of}
use Rattle.dt_offsets.proofs.Spans.{reach_of_even}
use Rattle.dt_offsets.specs.Offsets.{row_offsets}

abbrev ends : ℤ → ℤ → Option Marks
ends a b = Some (record { lb = int_min a b; ub = int_max a b })

pub row_between : (first last step : ℤ) (copies : ℕ) → (copies ≡ 0 → ⊥) → last ≡ first +ℤ (pos (copies - 1) *ℤ step)
    → ends first last ≡ reach_of (row_offsets first copies step)
row_between first last step zero some e = absurd (some refl)
row_between first last step (suc n) some e =
    let pred : suc n - 1 ≡ n = omega arith in
    ap (ends first) (e ∙ ap (λ k. first +ℤ (pos k *ℤ step)) pred) ∙ sym (reach_of_even first step n)
