-- What is put at one more place of a buffer.
use Rattle.std.proofs.Common.{◌≡◌, ℕ, zero, suc, ◌+◌, ◌*◌, ◌≤◌, ◌<◌, ℤ, pos, ◌+ℤ◌, ◌*ℤ◌, List, [], ◌∷◌, ◌++◌, take, drop, length, refl, sym, ap, subst, ◌∙◌, arith, length-drop}
use Rattle.std.specs.Prelude.{nat_abs}
use Rattle.std.proofs.lemmas.List.{drop-drop, length-take-le}
use Rattle.dt_map.specs.Setting.{written}
use Rattle.dt_offsets.specs.Offsets.{row_offsets}
use Rattle.dt_offsets.proofs.Reaches.{count-row}
use Rattle.dt_rows.specs.Storing.{each_put, stored}
use Rattle.dt_rows.proofs.Gathering.{row_more}

module _ (put : ℤ → List ℕ → List ℕ → List ℕ) (w : ℕ) where
  put_append : (xs ys : List ℤ) (buffer images : List ℕ) → each_put put w (xs ++ ys) buffer images ≡ each_put put w ys (each_put put w xs buffer images) (drop (length xs * w) images)
  put_append [] ys buffer images = let none : 0 * w ≡ 0 = omega arith in ap (λ n. each_put put w ys buffer (drop n images)) (sym none)
  put_append (x ∷ xs) ys buffer images =
      let turn : w + length xs * w ≡ suc (length xs) * w = omega arith in
      put_append xs ys (put x buffer images) (drop w images)
      ∙ ap (each_put put w ys (each_put put w (x ∷ xs) buffer images)) (drop-drop (length xs * w) w images ∙ ap (λ n. drop n images) turn)

  pub put_more : (start step : ℤ) (i : ℕ) (buffer images : List ℕ)
      → each_put put w (row_offsets start (i + 1) step) buffer images ≡ put (start +ℤ (pos i *ℤ step)) (each_put put w (row_offsets start i step) buffer images) (drop (i * w) images)
  put_more start step i buffer images =
      ap (λ xs. each_put put w xs buffer images) (row_more start step i)
      ∙ put_append (row_offsets start i step) ((start +ℤ (pos i *ℤ step)) ∷ []) buffer images
      ∙ ap (λ n. put (start +ℤ (pos i *ℤ step)) (each_put put w (row_offsets start i step) buffer images) (drop (n * w) images)) (count-row start step i)

-- two ways to put that come to the same at each place, and keep the length, come to the same
pub put_same : (put other : ℤ → List ℕ → List ℕ → List ℕ) (w len : ℕ) (start step : ℤ) (images : List ℕ) (n : ℕ)
    → ((i : ℕ) (b bytes : List ℕ) → i < n → length b ≡ len → w ≤ length bytes
    → (put (start +ℤ (pos i *ℤ step)) b bytes ≡ other (start +ℤ (pos i *ℤ step)) b bytes) × (length (put (start +ℤ (pos i *ℤ step)) b bytes) ≡ len))
    → (buffer : List ℕ) → length buffer ≡ len → n * w ≤ length images
    → (each_put put w (row_offsets start n step) buffer images ≡ each_put other w (row_offsets start n step) buffer images) × (length (each_put put w (row_offsets start n step) buffer images) ≡ len)
put_same put other w len start step images zero same buffer long enough = (refl, long)
put_same put other w len start step images (suc n) same buffer long enough =
    let next : n + 1 ≡ suc n = omega arith in
    let P : ℕ → Type 0 = λ m. (each_put put w (row_offsets start m step) buffer images ≡ each_put other w (row_offsets start m step) buffer images) × (length (each_put put w (row_offsets start m step) buffer images) ≡ len) in
    let more : suc n * w ≡ n * w + w = omega arith in
    let rest = put_same put other w len start step images n (λ i b bytes lt. same i b bytes (omega (arith, lt))) buffer long (omega (arith, more, enough)) in
    let x = start +ℤ (pos n *ℤ step) in
    let bytes = drop (n * w) images in
    let here = same n (each_put put w (row_offsets start n step) buffer images) bytes (omega arith) rest.1 (omega (arith, more, enough, length-drop (n * w) images)) in
    subst P next (
      put_more put w start step n buffer images ∙ here.0 ∙ ap (λ b. other x b bytes) rest.0 ∙ sym (put_more other w start step n buffer images),
      ap length (put_more put w start step n buffer images) ∙ here.1,
    )

pub put_everywhere : (put other : ℤ → List ℕ → List ℕ → List ℕ) (w : ℕ) → ((x : ℤ) (b bytes : List ℕ) → put x b bytes ≡ other x b bytes) → (places : List ℤ) (buffer images : List ℕ)
    → each_put put w places buffer images ≡ each_put other w places buffer images
put_everywhere put other w same [] buffer images = refl
put_everywhere put other w same (x ∷ places) buffer images =
    ap (λ b. each_put put w places b (drop w images)) (same x buffer images) ∙ put_everywhere put other w same places (other x buffer images) (drop w images)

-- pieces that stand for the same are stored alike
pub stored_same : (r s : List ℕ → List ℕ) (w : ℕ) → ((bytes : List ℕ) → length bytes ≡ w → r bytes ≡ s bytes) → (places : List ℤ) (buffer images : List ℕ)
    → length places * w ≤ length images → stored r w places buffer images ≡ stored s w places buffer images
stored_same r s w same [] buffer images enough = refl
stored_same r s w same (x ∷ places) buffer images enough =
    let more : suc (length places) * w ≡ w + length places * w = omega arith in
    ap (λ bytes. stored r w places (written buffer (nat_abs x) bytes) (drop w images)) (same (take w images) (length-take-le w images (omega (arith, more, enough))))
    ∙ stored_same r s w same places (written buffer (nat_abs x) (s (take w images))) (drop w images) (omega (arith, more, enough, length-drop w images))
