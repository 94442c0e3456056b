-- A list read at 0, 1, .. is the list.
use Rattle.std.specs.Prelude.{◌≡◌, Some, ℕ, zero, suc, ◌+◌, ◌≤◌, List, [], ◌∷◌, ◌++◌, map, length, take, slice_get, get_or}
use Rattle.std.proofs.Common.{refl, sym, ap, ◌∙◌, arith}
use Rattle.std.proofs.lemmas.List.{map-append, take_all, take_more}
use Rattle.std.proofs.lemmas.Option.{slice_get-get_or, slice_get_past}
use Rattle.dt_offsets.specs.Offsets.{below}
use Rattle.dt_map.specs.Typemap.{Marked}
use Rattle.dt_type.specs.Laws.{EntriesAreFlattened}

read_first : {A : Type 0} (xs : List A) (d : A) (n : ℕ) → n ≤ length xs → map (slice_get xs) (below n) ≡ map Some (take n xs)
read_first xs d zero le = refl
read_first xs d (suc n) le =
    let next : n + 1 ≡ suc n = omega arith in
    let more = take_more xs n d (omega arith) in
    map-append (slice_get xs) (below n) (n ∷ [])
    ∙ ap (λ s. s ++ slice_get xs n ∷ []) (read_first xs d n (omega arith))
    ∙ ap (λ o. map Some (take n xs) ++ o ∷ []) (slice_get-get_or xs n d (omega arith))
    ∙ sym (ap (λ k. map Some (take k xs)) (sym next) ∙ ap (map Some) more ∙ map-append Some (take n xs) (get_or xs n d ∷ []))

read_all : {A : Type 0} (xs : List A) → map (slice_get xs) (below (length xs)) ≡ map Some xs
read_all [] = refl
read_all (x ∷ xs) = read_first (x ∷ xs) x (length (x ∷ xs)) (omega arith) ∙ ap (map Some) (take_all (length (x ∷ xs)) (x ∷ xs) (omega arith))

pub entries_are_flattened : EntriesAreFlattened
entries_are_flattened t max m flattened =
    let same = ap (λ (m : Marked). m.entries) flattened.0 in (
      ap (λ es. map (slice_get es) (below (length m.entries))) (sym same) ∙ read_all m.entries,
      λ k le. ap (λ es. slice_get es k) (sym same) ∙ slice_get_past m.entries k le,
    )
