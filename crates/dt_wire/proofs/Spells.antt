-- Readers that read what is written, and nothing else.
use Rattle.std.proofs.Common.{◌≡◌, ℕ, zero, suc, [], ◌∷◌, ◌++◌, List, flat_map, length, Option, Some, Ok, refl, sym, ap, subst, ◌∙◌, append_assoc, append-nil}
use Rattle.std.specs.List.{AllByRecursion}
use Rattle.dt_wire.specs.Reading.{Bytes, Reader, ◌>>=◌, give, read_as, item_at, map_at, pair_at, list_at}
use Rattle.dt_wire.proofs.Readers.{Good, bind_ok, bind_good, give_good, item_good}

-- these bytes are what is written for a value that fits
abbrev pub Written : {A : Type 0} → (A → Bytes) → (A → Type 0) → A → Bytes → Type 0
Written write Fits x u = (u ≡ write x) × Fits x

pub record Spells {A : Type 0} (write : A → Bytes) (Fits : A → Type 0) (r : Reader A) : Type 0 where
  pub good : Good (Written write Fits) r
  pub again : (x : A) (rest : Bytes) → Fits x → r (write x ++ rest) ≡ Ok (x, rest)

-- one byte
pub item_spells : {A : Type 0} (write : A → ℕ) (spelled : ℕ → Option A) (x : A) → spelled (write x) ≡ Some x
    → ((b : ℕ) (y : A) → spelled b ≡ Some y → b ≡ write y) → ((y : A) → spelled (write y) ≡ Some y)
    → Spells (λ y. write y ∷ []) (λ y. Unit {0}) (item_at spelled)
item_spells write spelled x is means back = record {
  good = item_good (Written (λ y. write y ∷ []) (λ y. Unit {0})) spelled (write x) x is (λ b y e. (ap (λ c. c ∷ []) (means b y e), tt));
  again = λ y rest fits. ap (λ o. read_as o (write y ∷ rest) rest) (back y);
}

-- what was read, seen otherwise
pub map_good : {A B : Type 0} (P : A → Bytes → Type 0) (Q : B → Bytes → Type 0) (g : A → B) (r : Reader A) → Good P r → ((x : A) (u : Bytes) → P x u → Q (g x) u) → Good Q (map_at g r)
unfolding map_at
map_good {A} {B} P Q g r good same =
    bind_good P Q r (λ x. give (g x)) good (λ x u p. give_good (λ y v. Q y (u ++ v)) (g x) (subst (λ w. Q (g x) w) (sym (append-nil u)) (same x u p)))

pub map_again : {A B : Type 0} (g : A → B) (r : Reader A) (bytes rest : Bytes) (x : A) → r bytes ≡ Ok (x, rest) → map_at g r bytes ≡ Ok (g x, rest)
unfolding map_at
map_again g r bytes rest x e = bind_ok r (λ y. give (g y)) bytes rest x e

-- one behind the other
abbrev pub both : {A B : Type 0} → (A → Bytes) → (B → Bytes) → A × B → Bytes
both v w x = v x.0 ++ w x.1

abbrev pub FitBoth : {A B : Type 0} → (A → Type 0) → (B → Type 0) → A × B → Type 0
FitBoth F G x = F x.0 × G x.1

module _ {A B : Type 0} (v : A → Bytes) (w : B → Bytes) (F : A → Type 0) (G : B → Type 0) (r : Reader A) (s : Reader B) (first : Spells v F r) (second : Spells w G s) where
  pair_good : Good (Written (both v w) (FitBoth F G)) (pair_at r s)
  unfolding pair_at
  pair_good =
      bind_good (Written v F) (Written (both v w) (FitBoth F G)) r (λ x. s >>= λ y. give (x, y)) first.good (λ x u p.
      bind_good (Written w G) (λ z t. Written (both v w) (FitBoth F G) z (u ++ t)) s (λ y. give (x, y)) second.good (λ y t q.
      give_good (λ z e. Written (both v w) (FitBoth F G) z (u ++ (t ++ e))) (x, y)
      (ap (λ (a : Bytes). a ++ (t ++ [])) p.0 ∙ ap (λ (a : Bytes). v x ++ a) (append-nil t ∙ q.0), (p.1, q.1))))

  pair_again : (x : A × B) (rest : Bytes) → FitBoth F G x → pair_at r s (both v w x ++ rest) ≡ Ok (x, rest)
  unfolding pair_at
  pair_again x rest fits =
      ap (pair_at r s) (append_assoc (v x.0) (w x.1) rest)
      ∙ (bind_ok r (λ a. s >>= λ b. give (a, b)) (v x.0 ++ (w x.1 ++ rest)) (w x.1 ++ rest) x.0 (first.again x.0 (w x.1 ++ rest) fits.0)
      ∙ bind_ok s (λ b. give (x.0, b)) (w x.1 ++ rest) rest x.1 (second.again x.1 rest fits.1))

  pub pair_spells : Spells (both v w) (FitBoth F G) (pair_at r s)
  pair_spells = record { good = pair_good; again = pair_again }

-- so many
pub record AreAll {A : Type 0} (write : A → Bytes) (Fits : A → Type 0) (n : ℕ) (xs : List A) (u : Bytes) : Type 0 where
  pub bytes : u ≡ flat_map write xs
  pub fit : AllByRecursion Fits xs
  pub count : length xs ≡ n

module _ {A : Type 0} (write : A → Bytes) (Fits : A → Type 0) (r : Reader A) (spells : Spells write Fits r) where
  pub list_good : (n : ℕ) → Good (AreAll write Fits n) (list_at r n)
  list_good zero = give_good (AreAll write Fits zero) [] (record { bytes = refl; fit = tt; count = refl })
  list_good (suc n) =
      bind_good (Written write Fits) (AreAll write Fits (suc n)) r (λ first. list_at r n >>= λ more. give (first ∷ more)) spells.good (λ x u p.
      bind_good (AreAll write Fits n) (λ z t. AreAll write Fits (suc n) z (u ++ t)) (list_at r n) (λ more. give (x ∷ more)) (list_good n) (λ xs t q.
      give_good (λ z e. AreAll write Fits (suc n) z (u ++ (t ++ e))) (x ∷ xs) (record {
        bytes = ap (λ (a : Bytes). a ++ (t ++ [])) p.0 ∙ ap (λ (a : Bytes). write x ++ a) (append-nil t ∙ q.bytes);
        fit = (p.1, q.fit);
        count = ap suc q.count;
      })))

  pub list_again : (xs : List A) (rest : Bytes) → AllByRecursion Fits xs → list_at r (length xs) (flat_map write xs ++ rest) ≡ Ok (xs, rest)
  list_again [] rest fits = refl
  list_again (x ∷ xs) rest fits =
      ap (list_at r (suc (length xs))) (append_assoc (write x) (flat_map write xs) rest)
      ∙ (bind_ok r (λ first. list_at r (length xs) >>= λ more. give (first ∷ more)) (write x ++ (flat_map write xs ++ rest)) (flat_map write xs ++ rest) x (spells.again x (flat_map write xs ++ rest) fits.0)
      ∙ bind_ok (list_at r (length xs)) (λ more. give (x ∷ more)) (flat_map write xs ++ rest) rest xs (list_again xs rest fits.1))
