-- Lists that are joined for the numbers below a number.
use Rattle.std.proofs.Common.{◌≡◌, ℕ, zero, suc, ◌+◌, ◌*◌, ◌<◌, List, [], ◌∷◌, ◌++◌, take, drop, length, refl, sym, ap, ◌∙◌, arith, append_assoc, append-nil, length-append}
use Rattle.std.specs.List.{flat_map}
use Rattle.std.proofs.lemmas.Grind.{flat_map-append}
use Rattle.std.proofs.lemmas.List.{take-append-drop, take-take, drop-take, drop-drop}
use Rattle.dt_offsets.specs.Offsets.{below}

pub joined_more : {A : Type 0} (f : ℕ → List A) (n : ℕ) → flat_map f (below (suc n)) ≡ flat_map f (below n) ++ f n
joined_more f n = flat_map-append f (below n) (n ∷ []) ∙ ap (λ s. flat_map f (below n) ++ s) (append-nil (f n))

pub joined_same : {A : Type 0} (f g : ℕ → List A) (n : ℕ) → ((j : ℕ) → j < n → f j ≡ g j) → flat_map f (below n) ≡ flat_map g (below n)
joined_same f g zero same = refl
joined_same f g (suc n) same =
    joined_more f n ∙ ap (λ s. s ++ f n) (joined_same f g n (λ j lt. same j (omega arith)))
    ∙ ap (λ s. flat_map g (below n) ++ s) (same n (omega arith)) ∙ sym (joined_more g n)

pub length-joined : {A : Type 0} (f : ℕ → List A) (w n : ℕ) → ((j : ℕ) → j < n → length (f j) ≡ w) → length (flat_map f (below n)) ≡ n * w
length-joined f w zero long = omega arith
length-joined f w (suc n) long =
    let rest = length-joined f w n (λ j lt. long j (omega arith)) in
    let here = long n (omega arith) in
    omega (arith, ap length (joined_more f n), length-append (flat_map f (below n)) (f n), rest, here)

pub joined_split : {A : Type 0} (f : ℕ → List A) (k m : ℕ) → flat_map f (below (k + m)) ≡ flat_map f (below k) ++ flat_map (λ j. f (k + j)) (below m)
joined_split f k zero = let none : k + 0 ≡ k = omega arith in ap (λ n. flat_map f (below n)) none ∙ sym (append-nil (flat_map f (below k)))
joined_split f k (suc m) =
    let next : k + suc m ≡ suc (k + m) = omega arith in
    let front = flat_map f (below k) in
    let rest = flat_map (λ j. f (k + j)) (below m) in
    ap (λ n. flat_map f (below n)) next ∙ joined_more f (k + m) ∙ ap (λ s. s ++ f (k + m)) (joined_split f k m)
    ∙ append_assoc front rest (f (k + m)) ∙ ap (λ s. front ++ s) (sym (joined_more (λ j. f (k + j)) m))

-- bytes of a list one after another
pub take_further : {A : Type 0} (xs : List A) (p n s : ℕ) → take n (drop p xs) ++ take s (drop (p + n) xs) ≡ take (n + s) (drop p xs)
take_further xs p n s =
    ap (λ t. take n (drop p xs) ++ take s t) (sym (drop-drop n p xs))
    ∙ ap (λ t. t ++ take s (drop n (drop p xs))) (sym (take-take n (n + s) (drop p xs) (omega arith)))
    ∙ ap (λ t. take n (take (n + s) (drop p xs)) ++ t) (sym (drop-take n s (drop p xs)))
    ∙ take-append-drop n (take (n + s) (drop p xs))

pub take_joined : {A : Type 0} (xs : List A) (p s n : ℕ) → flat_map (λ j. take s (drop (p + j * s) xs)) (below n) ≡ take (n * s) (drop p xs)
take_joined xs p s zero = let none : 0 * s ≡ 0 = omega arith in ap (λ k. take k (drop p xs)) (sym none)
take_joined xs p s (suc n) =
    let next : n * s + s ≡ suc n * s = omega arith in
    joined_more (λ j. take s (drop (p + j * s) xs)) n
    ∙ ap (λ t. t ++ take s (drop (p + n * s) xs)) (take_joined xs p s n)
    ∙ take_further xs p (n * s) s ∙ ap (λ k. take k (drop p xs)) next
