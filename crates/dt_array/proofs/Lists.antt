-- Lists of lists, mapped and joined.
use Rattle.std.specs.Prelude.{◌≡◌, ℕ, zero, suc, ◌<◌, List, [], ◌∷◌, ◌++◌, map, reverse}
use Rattle.std.specs.List.{AllByRecursion, flat_map}
use Rattle.std.proofs.Common.{refl, sym, ap, subst, ◌∙◌, arith}
use Rattle.std.proofs.lemmas.Grind.{reverse_onto}
use Rattle.std.proofs.lemmas.List.{map-append}
use Rattle.dt_offsets.specs.Offsets.{below}
use Rattle.dt_offsets.proofs.NearNumbers.{all_append}

pub same_map : {X Y : Type 0} (f g : X → Y) → ((x : X) → f x ≡ g x) → (xs : List X) → map f xs ≡ map g xs
same_map f g same [] = refl
same_map f g same (x ∷ xs) = ap (λ y. y ∷ map f xs) (same x) ∙ ap (λ ys. g x ∷ ys) (same_map f g same xs)

pub same_flat_map : {X Y : Type 0} (f g : X → List Y) → ((x : X) → f x ≡ g x) → (xs : List X) → flat_map f xs ≡ flat_map g xs
same_flat_map f g same [] = refl
same_flat_map f g same (x ∷ xs) = ap (λ ys. ys ++ flat_map f xs) (same x) ∙ ap (λ ys. g x ++ ys) (same_flat_map f g same xs)

pub map-map : {X Y Z : Type 0} (g : Y → Z) (f : X → Y) (xs : List X) → map g (map f xs) ≡ map (λ x. g (f x)) xs
map-map g f [] = refl
map-map g f (x ∷ xs) = ap (λ ys. g (f x) ∷ ys) (map-map g f xs)

pub map-same : (f : ℕ → ℕ) → ((n : ℕ) → f n ≡ n) → (ns : List ℕ) → map f ns ≡ ns
map-same f same [] = refl
map-same f same (n ∷ ns) = ap (λ m. m ∷ map f ns) (same n) ∙ ap (λ ms. n ∷ ms) (map-same f same ns)

pub map-flat_map : {X Y Z : Type 0} (g : Y → Z) (f : X → List Y) (xs : List X) → map g (flat_map f xs) ≡ flat_map (λ x. map g (f x)) xs
map-flat_map g f [] = refl
map-flat_map g f (x ∷ xs) = map-append g (f x) (flat_map f xs) ∙ ap (λ ys. map g (f x) ++ ys) (map-flat_map g f xs)

pub all_weaker : {X : Type 0} (P Q : X → Type 0) → ((x : X) → P x → Q x) → (xs : List X) → AllByRecursion P xs → AllByRecursion Q xs
all_weaker P Q f [] h = tt
all_weaker P Q f (x ∷ xs) h = (f x h.0, all_weaker P Q f xs h.1)

pub all_map : {X Y : Type 0} (P : X → Type 0) (Q : Y → Type 0) (g : X → Y) → ((x : X) → P x → Q (g x)) → (xs : List X) → AllByRecursion P xs → AllByRecursion Q (map g xs)
all_map P Q g f [] h = tt
all_map P Q g f (x ∷ xs) h = (f x h.0, all_map P Q g f xs h.1)

-- what is made of the numbers below n
pub same_below : {X : Type 0} (f g : ℕ → X) (n : ℕ) → ((q : ℕ) → q < n → f q ≡ g q) → map f (below n) ≡ map g (below n)
same_below f g zero same = refl
same_below f g (suc n) same =
    map-append f (below n) (n ∷ [])
    ∙ ap (λ xs. xs ++ f n ∷ []) (same_below f g n (λ q lt. same q (omega arith)))
    ∙ ap (λ x. map g (below n) ++ x ∷ []) (same n (omega arith))
    ∙ sym (map-append g (below n) (n ∷ []))

pub all_below : {X : Type 0} (P : X → Type 0) (f : ℕ → X) (n : ℕ) → ((q : ℕ) → q < n → P (f q)) → AllByRecursion P (map f (below n))
all_below P f zero h = tt
all_below P f (suc n) h =
    subst (AllByRecursion P) (sym (map-append f (below n) (n ∷ [])))
    (all_append P (map f (below n)) (f n ∷ []) (all_below P f n (λ q lt. h q (omega arith))) (h n (omega arith), tt))

pub reverse-cons : {X : Type 0} (x : X) (xs : List X) → reverse (x ∷ xs) ≡ reverse xs ++ x ∷ []
reverse-cons x xs = reverse_onto xs x []

pub all_reverse : {X : Type 0} (P : X → Type 0) (xs : List X) → AllByRecursion P xs → AllByRecursion P (reverse xs)
all_reverse P [] h = tt
all_reverse P (x ∷ xs) h = subst (AllByRecursion P) (sym (reverse-cons x xs)) (all_append P (reverse xs) (x ∷ []) (all_reverse P xs h.1) (h.0, tt))
