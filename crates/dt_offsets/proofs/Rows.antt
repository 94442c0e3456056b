-- Whole rows and a part of a last one, counted through by one number.
use Rattle.std.proofs.Common.{◌≡◌, ℕ, zero, suc, ◌+◌, ◌*◌, ◌/◌, ◌%◌, ◌≤◌, ◌<◌, List, [], ◌∷◌, ◌++◌, map, sym, ap, ◌∙◌, arith, append_assoc, append-nil}
use Rattle.std.proofs.lemmas.List.{map-append}
use Rattle.std.proofs.lemmas.Nat.{div-mul-add, mod-mul-add}
use Rattle.std.proofs.lemmas.Grind.{flat_map-append}
use Rattle.std.specs.List.{flat_map}
use Rattle.dt_offsets.specs.Laws.{InRows}
use Rattle.dt_offsets.specs.Offsets.{below}

abbrev pub rows : {A : Type 0} → (ℕ → ℕ → A) → ℕ → ℕ → List A
rows f b n = flat_map (λ i. map (f i) (below b)) (below n)

abbrev InRowsTo : {A : Type 0} → (ℕ → ℕ → A) → ℕ → ℕ → ℕ → Type 0
InRowsTo f b n r = map (λ q. f (q / b) (q % b)) (below (n * b + r)) ≡ rows f b n ++ map (f n) (below r)

place_in_row : {A : Type 0} (f : ℕ → ℕ → A) (b n r : ℕ) → r < b → f ((n * b + r) / b) ((n * b + r) % b) ≡ f n r
place_in_row f b n r lt = ap (λ i. f i ((n * b + r) % b)) (div-mul-add n b r lt) ∙ ap (f n) (mod-mul-add n b r lt)

row_more : {A : Type 0} (f : ℕ → ℕ → A) (b n r : ℕ) → r < b → InRowsTo f b n r → InRowsTo f b n (suc r)
row_more f b n r lt h =
    let at = λ (q : ℕ). f (q / b) (q % b) in
    let next : n * b + suc r ≡ suc (n * b + r) = omega arith in
    ap (λ k. map at (below k)) next
    ∙ (map-append at (below (n * b + r)) ((n * b + r) ∷ [])
    ∙ (ap (λ s. s ++ at (n * b + r) ∷ []) h
    ∙ (ap (λ a. (rows f b n ++ map (f n) (below r)) ++ a ∷ []) (place_in_row f b n r lt)
    ∙ (append_assoc (rows f b n) (map (f n) (below r)) (f n r ∷ [])
    ∙ ap (λ s. rows f b n ++ s) (sym (map-append (f n) (below r) (r ∷ [])))))))

row : {A : Type 0} (f : ℕ → ℕ → A) (b n r : ℕ) → r ≤ b → InRowsTo f b n 0 → InRowsTo f b n r
row f b n zero le h = h
row f b n (suc r) le h = row_more f b n r (omega arith) (row f b n r (omega arith) h)

whole_rows : {A : Type 0} (f : ℕ → ℕ → A) (b n : ℕ) → InRowsTo f b n 0
whole_rows f b zero =
    let at = λ (q : ℕ). f (q / b) (q % b) in
    let none : 0 * b + 0 ≡ 0 = omega arith in
    ap (λ k. map at (below k)) none
whole_rows f b (suc n) =
    let at = λ (q : ℕ). f (q / b) (q % b) in
    let same : suc n * b + 0 ≡ n * b + b = omega arith in
    ap (λ k. map at (below k)) same
    ∙ (row f b n b (omega arith) (whole_rows f b n)
    ∙ (ap (λ s. rows f b n ++ s) (sym (append-nil (map (f n) (below b))))
    ∙ (sym (flat_map-append (λ i. map (f i) (below b)) (below n) (n ∷ []))
    ∙ sym (append-nil (rows f b (suc n))))))

pub in_rows_of : {A : Type 0} (f : ℕ → ℕ → A) (b n r : ℕ) → r ≤ b → map (λ q. f (q / b) (q % b)) (below (n * b + r)) ≡ rows f b n ++ map (f n) (below r)
in_rows_of f b n r le = row f b n r le (whole_rows f b n)

pub in_rows : InRows
in_rows f b n r le = in_rows_of f b n r le
