-- What stands for one more place is put after others.
use Rattle.std.proofs.Common.{◌≡◌, ℕ, add-one, ◌+◌, ◌*◌, ◌≤◌, ℤ, pos, ◌+ℤ◌, ◌*ℤ◌, List, [], ◌∷◌, ◌++◌, take, drop, length, sym, ap, ◌∙◌, arith, append_assoc, append-nil, length-append, length-drop}
use Rattle.std.specs.List.{flat_map}
use Rattle.std.proofs.lemmas.Grind.{flat_map-append}
use Rattle.std.proofs.lemmas.List.{map-append, take_at, drop_at, drop-drop}
use Rattle.dt_map.specs.Setting.{written}
use Rattle.dt_offsets.specs.Offsets.{below, row_offsets}

-- bytes written after a front of a list
pub written_after : (ps old mid bytes : List ℕ) (n k : ℕ) → mid ≡ ps ++ drop n old → length mid ≡ length old → n + k ≤ length old → length bytes ≡ k
    → written mid n bytes ≡ (ps ++ bytes) ++ drop (n + k) old
written_after ps old mid bytes n k is same room long =
    let parts = ap length is in
    let front : length ps ≡ n = omega (arith, parts, same, length-append ps (drop n old), length-drop n old) in
    let before : take n mid ≡ ps = ap (take n) is ∙ take_at ps (drop n old) n front in
    let after : drop (n + k) mid ≡ drop (n + k) old =
    sym (drop-drop k n mid) ∙ ap (drop k) (ap (drop n) is ∙ drop_at ps (drop n old) n front) ∙ drop-drop k n old in
    ap (λ s. s ++ (bytes ++ drop (n + length bytes) mid)) before
    ∙ ap (λ m. ps ++ (bytes ++ drop (n + m) mid)) long
    ∙ ap (λ s. ps ++ (bytes ++ s)) after
    ∙ sym (append_assoc ps bytes (drop (n + k) old))

-- one more offset of a row
pub row_more : (start step : ℤ) (i : ℕ) → row_offsets start (i + 1) step ≡ row_offsets start i step ++ (start +ℤ (pos i *ℤ step)) ∷ []
row_more start step i =
    ap (λ n. row_offsets start n step) (add-one i) ∙ map-append (λ j. start +ℤ (pos j *ℤ step)) (below i) (i ∷ [])

-- what stands for one more place is put after what stands for the places before it
pub gathered_more : (one : ℤ → List ℕ) (w : ℕ) (old mid new : List ℕ) (start step : ℤ) (i : ℕ)
    → mid ≡ flat_map one (row_offsets start i step) ++ drop (i * w) old → length mid ≡ length old → (i + 1) * w ≤ length old
    → new ≡ written mid (i * w) (one (start +ℤ (pos i *ℤ step))) → length (one (start +ℤ (pos i *ℤ step))) ≡ w
    → new ≡ flat_map one (row_offsets start (i + 1) step) ++ drop ((i + 1) * w) old
gathered_more one w old mid new start step i is same room put long =
    let x = start +ℤ (pos i *ℤ step) in
    let front = flat_map one (row_offsets start i step) in
    let next : i * w + w ≡ (i + 1) * w = omega arith in
    let more : flat_map one (row_offsets start (i + 1) step) ≡ front ++ one x =
    ap (flat_map one) (row_more start step i) ∙ flat_map-append one (row_offsets start i step) (x ∷ []) ∙ ap (λ s. front ++ s) (append-nil (one x)) in
    put ∙ written_after front old mid (one x) (i * w) w is same (omega (arith, room)) long
    ∙ ap (λ n. (front ++ one x) ++ drop n old) next
    ∙ ap (λ s. s ++ drop ((i + 1) * w) old) (sym more)
