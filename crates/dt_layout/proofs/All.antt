-- What holds of all members of lists that are made of lists.
use Rattle.std.specs.Prelude.{ℤ, ◌+ℤ◌, List, [], ◌∷◌, ◌++◌, map}
use Rattle.std.specs.List.{AllByRecursion, flat_map}
use Rattle.dt_offsets.specs.Offsets.{sums}

pub all_split : {A : Type 0} (P : A → Type 0) (xs ys : List A) → AllByRecursion P (xs ++ ys) → AllByRecursion P xs × AllByRecursion P ys
all_split P [] ys h = (tt, h)
all_split P (x ∷ xs) ys h = let rest = all_split P xs ys h.1 in ((h.0, rest.0), rest.1)

pub all_map : {X A : Type 0} (P : A → Type 0) (f : X → A) (xs : List X) → AllByRecursion P (map f xs) → AllByRecursion (λ x. P (f x)) xs
all_map P f [] h = tt
all_map P f (x ∷ xs) h = (h.0, all_map P f xs h.1)

pub all_flat : {X A : Type 0} (P : A → Type 0) (f : X → List A) (xs : List X) → AllByRecursion P (flat_map f xs) → AllByRecursion (λ x. AllByRecursion P (f x)) xs
all_flat P f [] h = tt
all_flat P f (x ∷ xs) h = let parts = all_split P (f x) (flat_map f xs) h in (parts.0, all_flat P f xs parts.1)

pub all_zip : {A : Type 0} (P Q R : A → Type 0) → ((x : A) → P x → Q x → R x) → (xs : List A) → AllByRecursion P xs → AllByRecursion Q xs → AllByRecursion R xs
all_zip P Q R f [] h k = tt
all_zip P Q R f (x ∷ xs) h k = (f x h.0 k.0, all_zip P Q R f xs h.1 k.1)

pub all_each : {A : Type 0} (P : A → Type 0) → ((x : A) → P x) → (xs : List A) → AllByRecursion P xs
all_each P f [] = tt
all_each P f (x ∷ xs) = (f x, all_each P f xs)

pub all_sums : (P : ℤ → Type 0) (xs ys : List ℤ) → AllByRecursion P (sums xs ys) → AllByRecursion (λ x. AllByRecursion (λ y. P (x +ℤ y)) ys) xs
all_sums P [] ys h = tt
all_sums P (x ∷ xs) ys h =
    let parts = all_split P (map (λ y. x +ℤ y) ys) (sums xs ys) h in
    (all_map P (λ y. x +ℤ y) ys parts.0, all_sums P xs ys parts.1)
