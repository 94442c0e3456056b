-- Rows that are merged come to what they are joined to from the first on, where the operation is associative on them.
use Rattle.std.proofs.Common.{◌≡◌, Some, ℕ, zero, suc, ◌+◌, ◌-◌, ◌<◌, List, [], ◌∷◌, ◌++◌, length, refl, sym, subst, arith, append-nil}
use Rattle.std.proofs.lemmas.List.{append_assoc}
use Rattle.std.specs.List.{AllByRecursion, reduce}
use Rattle.dt_ops.specs.Bracketing.{IsBracketing}
use Rattle.dt_ops.specs.Bracketing as bracketing
use Rattle.dt_ops.proofs.Folding.{IsOrderFree, bracketing_is_fold}
use Rattle.dt_reduce.specs.Merges.{merged_at, merged, Bracket}

-- merges whose first member is good, and whose others bracket a row less
pub bracket_rest : (n k : ℕ) (merges : List ℕ) → Bracket n (k ∷ merges) → (k + 1 < n) × Bracket (n - 1) merges
bracket_rest n k merges b =
    let count = b.count in
    let first = b.good 0 (omega arith) in (
      omega (arith, first),
      record {
        count = omega (arith, count);
        good = λ i less. let good = b.good (suc i) (omega (arith, less)) in omega (arith, good);
      },
    )

module _ {A : Type 0} (op : A → A → A) where
  pub length-merged_at : (k : ℕ) (rows : List A) → k + 1 < length rows → length (merged_at op k rows) + 1 ≡ length rows
  length-merged_at zero [] less = absurd (omega (arith, less))
  length-merged_at zero (a ∷ []) less = absurd (omega (arith, less))
  length-merged_at zero (a ∷ b ∷ rows) less = omega arith
  length-merged_at (suc k) [] less = absurd (omega (arith, less))
  length-merged_at (suc k) (a ∷ rows) less = let rest = length-merged_at k rows (omega (arith, less)) in omega (arith, rest)

  -- one merge more
  pub merged-push : (merges : List ℕ) (k : ℕ) (rows : List A) → merged op (merges ++ k ∷ []) rows ≡ merged_at op k (merged op merges rows)
  merged-push [] k rows = refl
  merged-push (j ∷ merges) k rows = merged-push merges k (merged_at op j rows)

  -- rows of which each is a bracketing of some of the first rows, one after another
  data AreBracketings : List A → List A → Type 0 where
    none : AreBracketings [] []
    next : (xs : List A) (x : A) (ys rows : List A) → IsBracketing op xs x → AreBracketings ys rows → AreBracketings (xs ++ ys) (x ∷ rows)

  at_first : (rows : List A) → AreBracketings rows rows
  at_first [] = none
  at_first (x ∷ rows) = next (x ∷ []) x rows rows (bracketing.one x) (at_first rows)

  merge_keeps : (k : ℕ) {xs rows : List A} → k + 1 < length rows → AreBracketings xs rows → AreBracketings xs (merged_at op k rows)
  merge_keeps zero less none = absurd (omega (arith, less))
  merge_keeps zero less (next xs x ys [] first none) = absurd (omega (arith, less))
  merge_keeps zero less (next xs x _ _ first (next ys y zs rows second rest)) =
      subst (λ s. AreBracketings s (op x y ∷ rows)) (append_assoc xs ys zs) (next (xs ++ ys) (op x y) zs rows (bracketing.two xs ys x y first second) rest)
  merge_keeps (suc k) less none = absurd (omega (arith, less))
  merge_keeps (suc k) less (next xs x ys rows first rest) = next xs x ys (merged_at op k rows) first (merge_keeps k (omega (arith, less)) rest)

  merges_keep : (merges : List ℕ) {xs rows : List A} → Bracket (length rows) merges → AreBracketings xs rows → AreBracketings xs (merged op merges rows) × (length (merged op merges rows) ≡ 1)
  merges_keep [] {xs = xs} {rows = rows} b each = let count = b.count in (each, omega (arith, count))
  merges_keep (k ∷ merges) {xs = xs} {rows = rows} b each =
      let rest = bracket_rest (length rows) k merges b in
      let fewer = length-merged_at k rows rest.0 in
      let less : length rows - 1 ≡ length (merged_at op k rows) = omega (arith, fewer) in
      merges_keep merges (subst (λ n. Bracket n merges) less rest.1) (merge_keeps k rest.0 each)

  only_one : {xs rows : List A} → AreBracketings xs rows → length rows ≡ 1 → (x : A) × (rows ≡ x ∷ []) × IsBracketing op xs x
  only_one none single = absurd (omega (arith, single))
  only_one (next xs x ys [] first none) single = (x, refl, subst (λ s. IsBracketing op s x) (sym (append-nil xs)) first)
  only_one (next xs x ys (y ∷ rows) first rest) single = absurd (omega (arith, single))

  -- merges that bracket rows leave one, and it is a bracketing of them
  pub merges_are_bracketings : (rows : List A) (merges : List ℕ) → Bracket (length rows) merges → (x : A) × (merged op merges rows ≡ x ∷ []) × IsBracketing op rows x
  merges_are_bracketings rows merges b = let kept = merges_keep merges b (at_first rows) in only_one kept.0 kept.1

  -- it is what they are joined to from the first on, where the order is free
  pub merges_fold : (P : A → Type 0) → IsOrderFree op P → (rows : List A) (merges : List ℕ) → Bracket (length rows) merges → AllByRecursion P rows
      → (x : A) × (merged op merges rows ≡ x ∷ []) × (reduce op rows ≡ Some x)
  merges_fold P free rows merges b all =
      let left = merges_are_bracketings rows merges b in
      (left.0, left.1, bracketing_is_fold op P free left.2 all)
