-- The elements of an operation, moved to where it begins.
use Rattle.std.proofs.Common.{◌≡◌, ℕ, ℤ, pos, ◌+ℤ◌, sym, ap, ◌∙◌, arith}
use Rattle.std.proofs.lemmas.Int.{ints}
use Rattle.dt_map.specs.Elements.{elements}
use Rattle.dt_map.specs.Typemap.{Marked, shift}
use Rattle.dt_map.proofs.Copies.{elements_are_placed}
use Rattle.dt_map.proofs.Placings.{shift-shift}

-- the elements of an operation that begins at 0, moved to where it begins
pub placed_elements : (m : Marked) (count : ℕ) (origin : ℤ) → shift origin (elements m count (pos 0)) ≡ elements m count origin
placed_elements m count origin =
    let same : pos 0 +ℤ origin ≡ origin = omega (arith, ints) in
    ap (shift origin) (elements_are_placed m count (pos 0)) ∙ shift-shift origin (pos 0) _ ∙ ap (λ x. shift x _) same ∙ sym (elements_are_placed m count origin)
