-- One more of the old types.
use Rattle.std.specs.Prelude.{◌≡◌, ℕ, ◌+◌, max, Some, List, [], ◌∷◌, ◌++◌, take, slice_get}
use Rattle.std.specs.List.{AllByRecursion, sum_by}
use Rattle.std.proofs.Common.{◌∙◌, sym, ap, subst, arith}
use Rattle.std.proofs.lemmas.List.{take_more}
use Rattle.std.proofs.lemmas.List.Sums.{sum_by-append}
use Rattle.std.proofs.lemmas.Option.{slice_get_within, get_or_from_slice_get}
use Rattle.dt_offsets.proofs.NearNumbers.{all_append}
use Rattle.dt_type.specs.declared.datatype.Seen.{Seen}
use Rattle.dt_type.specs.Datatype.{weight_of, depth_of}
use Rattle.dt_type.specs.Form.{deepest}

pub one_more : (olds : List Seen) (k : ℕ) (old : Seen) → slice_get olds k ≡ Some old → take (k + 1) olds ≡ take k olds ++ old ∷ []
one_more olds k old e =
    take_more olds k old (slice_get_within olds k old e) ∙ ap (λ t. take k olds ++ t ∷ []) (get_or_from_slice_get olds k old old e)

pub weighs_more : (olds : List Seen) (k : ℕ) (old : Seen) → slice_get olds k ≡ Some old → sum_by weight_of (take (k + 1) olds) ≡ sum_by weight_of (take k olds) + weight_of old
weighs_more olds k old e =
    let whole = ap (sum_by weight_of) (one_more olds k old e) ∙ sum_by-append weight_of (take k olds) (old ∷ []) in
    omega (arith, whole)

deepest-more : (olds : List Seen) (t : Seen) → deepest (olds ++ t ∷ []) ≡ max (deepest olds) (depth_of t)
deepest-more [] t = omega arith
deepest-more (old ∷ olds) t = let h = deepest-more olds t in omega arith

pub deeper : (olds : List Seen) (k : ℕ) (old : Seen) → slice_get olds k ≡ Some old → deepest (take (k + 1) olds) ≡ max (deepest (take k olds)) (depth_of old)
deeper olds k old e = ap deepest (one_more olds k old e) ∙ deepest-more (take k olds) old

pub whole_more : (P : Seen → Type 0) (olds : List Seen) (k : ℕ) (old : Seen) → slice_get olds k ≡ Some old → AllByRecursion P (take k olds) → P old → AllByRecursion P (take (k + 1) olds)
whole_more P olds k old e before here = subst (AllByRecursion P) (sym (one_more olds k old e)) (all_append P (take k olds) (old ∷ []) before (here, tt))
