-- The place of a copy, as code that converts numbers to their bits and back tells it.
use Rattle.std.proofs.Common.{◌≡◌, ℕ, ℤ, pos, ◌+ℤ◌, ◌*ℤ◌, SFits, to_z, of_z, ap, ◌∙◌}
use Rattle.std.proofs.lemmas.Int.{to_z-of_z}
use Rattle.std.specs.Int.{w64, w128}

pub place_of : (origin extent known at : ℤ) (k : ℕ) → SFits w64 origin → SFits w128 extent → extent ≡ known
    → at ≡ to_z w64 (of_z w64 origin) +ℤ (pos k *ℤ to_z w128 (of_z w128 extent)) → at ≡ origin +ℤ (pos k *ℤ known)
place_of origin extent known at k fits_origin fits_extent is told =
    told ∙ ap (λ z. z +ℤ (pos k *ℤ to_z w128 (of_z w128 extent))) (to_z-of_z w64 origin fits_origin)
    ∙ ap (λ z. origin +ℤ (pos k *ℤ z)) (to_z-of_z w128 extent fits_extent ∙ is)
