-- An element of joined lists of one length each, by division.
use Rattle.std.specs.Prelude.{◌≡◌, None, ℕ, zero, suc, ◌+◌, ◌*◌, ◌-◌, ◌/◌, ◌%◌, ◌<◌, ◌≤◌, ℤ, pos, ◌+ℤ◌, List, [], ◌∷◌, ◌++◌, map, length, drop, slice_get, get_or}
use Rattle.std.specs.List.{flat_map}
use Rattle.std.specs.Option.{option_map}
use Rattle.std.proofs.Common.{refl, sym, ap, ◌∙◌, arith}
use Rattle.std.proofs.lemmas.Grind.{flat_map-append}
use Rattle.std.proofs.lemmas.Int.{ints}
use Rattle.std.proofs.lemmas.List.{map-append, append-nil, length-map, drop_all}
use Rattle.std.proofs.lemmas.Nat.{div-add-mod'}
use Rattle.std.proofs.lemmas.Option.{slice_get-map, slice_get-get_or}
use Rattle.std.proofs.Math.Nat.{mod-lt, div-lt_iff_lt-mul}
use Rattle.std.proofs.Math.Seq.{drop-cons}
use Rattle.dt_offsets.specs.declared.turns.Turns.{Turns}
use Rattle.dt_offsets.specs.Offsets.{sums, turn_offsets, grid_offsets}

pub slice_get-left : {X : Type 0} (a b : List X) (j : ℕ) → j < length a → slice_get (a ++ b) j ≡ slice_get a j
slice_get-left [] b j h = absurd (omega arith)
slice_get-left (x ∷ a) b zero h = refl
slice_get-left (x ∷ a) b (suc j) h = slice_get-left a b j (omega arith)

pub slice_get-right : {X : Type 0} (a b : List X) (k : ℕ) → slice_get (a ++ b) (length a + k) ≡ slice_get b k
slice_get-right {X} [] b k = let e : length {A = X} [] + k ≡ k = omega arith in ap (slice_get b) e
slice_get-right (x ∷ a) b k =
    let e : length (x ∷ a) + k ≡ suc (length a + k) = omega arith in
    ap (slice_get (x ∷ (a ++ b))) e ∙ slice_get-right a b k

module _ {X A : Type 0} (f : X → List A) (n : ℕ) (each : (x : X) → length (f x) ≡ n) where
  block_at : (xs : List X) (i j : ℕ) (d : X) → i < length xs → j < n → slice_get (flat_map f xs) (i * n + j) ≡ slice_get (f (get_or xs i d)) j
  block_at [] i j d h k = absurd (omega arith)
  block_at (x ∷ xs) zero j d h k =
      let e : zero * n + j ≡ j = omega arith in
      let one = each x in
      ap (slice_get (f x ++ flat_map f xs)) e ∙ slice_get-left (f x) (flat_map f xs) j (omega arith)
  block_at (x ∷ xs) (suc i) j d h k =
      let one = each x in
      let e : suc i * n + j ≡ length (f x) + (i * n + j) = omega arith in
      ap (slice_get (f x ++ flat_map f xs)) e ∙ slice_get-right (f x) (flat_map f xs) (i * n + j) ∙ block_at xs i j d (omega arith) k

  some_long : (m k : ℕ) → k < m * n → 0 < n
  some_long m k h = elim n as (λ n. k < m * n → 0 < n) [ zero ↦ λ h. let none : m * zero ≡ 0 = omega arith in absurd (omega arith) | suc n ↦ λ h. omega arith ] h

  pub in_block : (xs : List X) (k : ℕ) (d : X) → k < length xs * n → slice_get (flat_map f xs) k ≡ slice_get (f (get_or xs (k / n) d)) (k % n)
  in_block xs k d h =
      let long = some_long (length xs) k h in
      let split = div-add-mod' k n in
      ap (slice_get (flat_map f xs)) (sym split) ∙ block_at xs (k / n) (k % n) d ((div-lt_iff_lt-mul long).1 h) (mod-lt k long)

pub sum_at : (xs ys : List ℤ) (k : ℕ) → k < length xs * length ys
    → slice_get (sums xs ys) k ≡ option_map (λ y. get_or xs (k / length ys) (pos 0) +ℤ y) (slice_get ys (k % length ys))
sum_at xs ys k h =
    in_block (λ x. map (λ y. x +ℤ y) ys) (length ys) (λ x. length-map ys (λ y. x +ℤ y)) xs k (pos 0) h
    ∙ slice_get-map (λ y. get_or xs (k / length ys) (pos 0) +ℤ y) ys (k % length ys)

moved-moved : (x y : ℤ) (zs : List ℤ) → map (λ u. x +ℤ u) (map (λ z. y +ℤ z) zs) ≡ map (λ z. (x +ℤ y) +ℤ z) zs
moved-moved x y [] = refl
moved-moved x y (z ∷ zs) =
    let e : x +ℤ (y +ℤ z) ≡ (x +ℤ y) +ℤ z = omega (arith, ints) in
    ap (λ u. u ∷ map (λ v. x +ℤ v) (map (λ v. y +ℤ v) zs)) e ∙ ap (λ us. ((x +ℤ y) +ℤ z) ∷ us) (moved-moved x y zs)

moved-sums : (x : ℤ) (ys zs : List ℤ) → map (λ u. x +ℤ u) (sums ys zs) ≡ sums (map (λ y. x +ℤ y) ys) zs
moved-sums x [] zs = refl
moved-sums x (y ∷ ys) zs =
    map-append (λ u. x +ℤ u) (map (λ z. y +ℤ z) zs) (sums ys zs)
    ∙ ap (λ us. us ++ map (λ u. x +ℤ u) (sums ys zs)) (moved-moved x y zs)
    ∙ ap (λ us. map (λ z. (x +ℤ y) +ℤ z) zs ++ us) (moved-sums x ys zs)

sums-assoc : (xs ys zs : List ℤ) → sums xs (sums ys zs) ≡ sums (sums xs ys) zs
sums-assoc [] ys zs = refl
sums-assoc (x ∷ xs) ys zs =
    ap (λ us. us ++ sums xs (sums ys zs)) (moved-sums x ys zs)
    ∙ ap (λ us. sums (map (λ y. x +ℤ y) ys) zs ++ us) (sums-assoc xs ys zs)
    ∙ sym (flat_map-append (λ x. map (λ z. x +ℤ z) zs) (map (λ y. x +ℤ y) ys) (sums xs ys))

pub sums-zero : (xs : List ℤ) → sums xs (pos 0 ∷ []) ≡ xs
sums-zero [] = refl
sums-zero (x ∷ xs) = let e : x +ℤ pos 0 ≡ x = omega (arith, ints) in ap (λ u. u ∷ sums xs (pos 0 ∷ [])) e ∙ ap (λ us. x ∷ us) (sums-zero xs)

zero-sums : (ys : List ℤ) → sums (pos 0 ∷ []) ys ≡ ys
zero-sums ys = append-nil (map (λ y. pos 0 +ℤ y) ys) ∙ same ys
  where
    same : (ys : List ℤ) → map (λ y. pos 0 +ℤ y) ys ≡ ys
    same [] = refl
    same (y ∷ ys) = let e : pos 0 +ℤ y ≡ y = omega (arith, ints) in ap (λ u. u ∷ map (λ v. pos 0 +ℤ v) ys) e ∙ ap (λ us. y ∷ us) (same ys)

-- one more dimension, innermost
pub grid-inner : (turns : List Turns) (t : Turns) → grid_offsets (turns ++ t ∷ []) ≡ sums (grid_offsets turns) (turn_offsets t)
grid-inner [] t = sums-zero (turn_offsets t) ∙ sym (zero-sums (turn_offsets t))
grid-inner (u ∷ turns) t = ap (sums (turn_offsets u)) (grid-inner turns t) ∙ sums-assoc (turn_offsets u) (grid_offsets turns) (turn_offsets t)

-- the element at a place in joined lists: in the first of those that are left, or further on
module _ {X A : Type 0} (f : X → List A) (xs : List X) (i : ℕ) (x d : X) (lt : i < length xs) (is : x ≡ get_or xs i d) where
  unjoined : flat_map f (drop i xs) ≡ f x ++ flat_map f (drop (i + 1) xs)
  unjoined =
      let next : suc i ≡ i + 1 = omega arith in
      ap (flat_map f) (drop-cons xs i d lt) ∙ ap (λ y. f y ++ flat_map f (drop (suc i) xs)) (sym is) ∙ ap (λ k. f x ++ flat_map f (drop k xs)) next

  pub piece_here : (k : ℕ) → k < length (f x) → slice_get (flat_map f (drop i xs)) k ≡ slice_get (f x) k
  piece_here k h = ap (λ ys. slice_get ys k) unjoined ∙ slice_get-left (f x) (flat_map f (drop (i + 1) xs)) k h

  pub piece_later : (k : ℕ) → length (f x) ≤ k → slice_get (flat_map f (drop i xs)) k ≡ slice_get (flat_map f (drop (i + 1) xs)) (k - length (f x))
  piece_later k h =
      let e : k ≡ length (f x) + (k - length (f x)) = omega arith in
      ap (λ ys. slice_get ys k) unjoined
      ∙ ap (slice_get (f x ++ flat_map f (drop (i + 1) xs))) e
      ∙ slice_get-right (f x) (flat_map f (drop (i + 1) xs)) (k - length (f x))

pub flat_map-flat_map : {X Y A : Type 0} (f : Y → List A) (g : X → List Y) (xs : List X) → flat_map f (flat_map g xs) ≡ flat_map (λ x. flat_map f (g x)) xs
flat_map-flat_map f g [] = refl
flat_map-flat_map f g (x ∷ xs) = flat_map-append f (g x) (flat_map g xs) ∙ ap (λ ys. flat_map f (g x) ++ ys) (flat_map-flat_map f g xs)

-- past the last of them nothing is left
pub none_left : {X A : Type 0} (f : X → List A) (xs : List X) (i k : ℕ) (ys : List A) (l : ℕ) → length xs ≤ i → slice_get (flat_map f (drop i xs)) k ≡ slice_get ys l → l < length ys → ⊥
none_left f xs i k [] l past same within = absurd (omega arith)
none_left f xs i k (y ∷ ys) l past same within =
    let gone : slice_get (flat_map f (drop i xs)) k ≡ None = ap (λ zs. slice_get (flat_map f zs) k) (drop_all i xs past) in
    let found = slice_get-get_or (y ∷ ys) l y within in
    cc
