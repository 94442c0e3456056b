-- What it tells of some words that reading them gave a value, one lemma for each reader.
use Rattle.std.proofs.Common.{◌≡◌, ◌≢◌, ℕ, Bool, true, false, cond, List, [], ◌∷◌, Option, Some, None, refl, ap, subst}
use Rattle.std.proofs.lemmas.Slice.Eq.{bytes_eq-Decides}
use Rattle.std.specs.Bool.{IsTrue}
use Rattle.std.specs.Str.{bytes_eq}
use Rattle.dt_script.specs.Item.{IsName, Words, Are}
use Rattle.dt_script.specs.Name.{is_name, name_of}
use Rattle.dt_script.specs.Reading.{◌>>=◌, keyword_at, item_at, items_at, one_or_more_at}

pub bind_some : {A B : Type 0} (o : Option A) (f : A → Option B) (y : B) → (o >>= f) ≡ Some y → (x : A) × (o ≡ Some x) × (f x ≡ Some y)
bind_some None f y e = cc
bind_some (Some x) f y e = (x, refl, e)

-- what holds of the value that was given
pub from_some : {A : Type 0} (P : A → Type 0) (x y : A) → Some x ≡ Some y → P x → P y
from_some P x y e p = let same : x ≡ y = cc in subst P same p

pub test_some : {A : Type 0} (b : Bool) (x y : A) → cond b (Some x) None ≡ Some y → (b ≡ true) × (x ≡ y)
test_some true x y e = (refl, cc)
test_some false x y e = cc

pub name_some : (word x : List ℕ) → name_of word ≡ Some x → (word ≡ x) × IsTrue (is_name x)
name_some word x e =
    let (is, same) = test_some (is_name word) word x e in
    let P : List ℕ → Type 0 = λ v. IsTrue (is_name v) in
    (same, subst P same is)

pub name_complete : (word x : List ℕ) → IsName word x → name_of word ≡ Some x
name_complete word x (same, is) = rw (same, is) refl

keyword_on : {B : Type 0} (b : Bool) (ws : Words) (f : Words → Option B) (y : B) → (cond b (Some ws) None >>= f) ≡ Some y → (b ≡ true) × (f ws ≡ Some y)
keyword_on true ws f y e = (refl, e)
keyword_on false ws f y e = cc

pub keyword_some : {B : Type 0} (k : List ℕ) (ws : Words) (f : Words → Option B) (y : B) → (keyword_at k ws >>= f) ≡ Some y
    → (rest : Words) × (ws ≡ k ∷ rest) × (f rest ≡ Some y)
unfolding keyword_at
keyword_some k [] f y e = cc
keyword_some k (w ∷ ws) f y e =
    let (is, told) = keyword_on (bytes_eq w k) ws f y e in
    (ws, ap (λ v. v ∷ ws) ((bytes_eq-Decides w k).0 is), told)

item_on : {A B : Type 0} (o : Option A) (ws : Words) (f : A × Words → Option B) (y : B) → ((o >>= λ x. Some (x, ws)) >>= f) ≡ Some y
    → (x : A) × (o ≡ Some x) × (f (x, ws) ≡ Some y)
item_on None ws f y e = cc
item_on (Some x) ws f y e = (x, refl, e)

pub item_some : {A B : Type 0} (read : List ℕ → Option A) (ws : Words) (f : A × Words → Option B) (y : B) → (item_at read ws >>= f) ≡ Some y
    → (w : List ℕ) × (x : A) × (rest : Words) × (ws ≡ w ∷ rest) × (read w ≡ Some x) × (f (x, rest) ≡ Some y)
unfolding item_at
item_some read [] f y e = cc
item_some read (w ∷ ws) f y e = let (x, is, told) = item_on (read w) ws f y e in (w, x, ws, refl, is, told)

pub are_sound : {A : Type 0} (Is : List ℕ → A → Type 0) (read : List ℕ → Option A) → ((w : List ℕ) (x : A) → read w ≡ Some x → Is w x)
    → (ws : Words) (xs : List A) → items_at read ws ≡ Some xs → Are Is ws xs
are_sound Is read one [] xs e = from_some (λ xs. Are Is [] xs) [] xs e tt
are_sound Is read one (w ∷ ws) xs e =
    let (x, is, told) = bind_some (read w) _ xs e in
    let (more, are, ends) = bind_some (items_at read ws) _ xs told in
    from_some (λ xs. Are Is (w ∷ ws) xs) (x ∷ more) xs ends (one w x is, are_sound Is read one ws more are)

pub are_complete : {A : Type 0} (Is : List ℕ → A → Type 0) (read : List ℕ → Option A) → ((w : List ℕ) (x : A) → Is w x → read w ≡ Some x)
    → (ws : Words) (xs : List A) → Are Is ws xs → items_at read ws ≡ Some xs
are_complete Is read one [] [] h = refl
are_complete Is read one [] (x ∷ xs) h = absurd h
are_complete Is read one (w ∷ ws) [] h = absurd h
are_complete Is read one (w ∷ ws) (x ∷ xs) h = rw (one w x h.0, are_complete Is read one ws xs h.1) refl

-- words of which there is one spell a value each, so there is a value
are_some : {A : Type 0} (Is : List ℕ → A → Type 0) (w : List ℕ) (ws : Words) (xs : List A) → Are Is (w ∷ ws) xs → xs ≢ []
are_some Is w ws [] are e = are
are_some Is w ws (x ∷ xs) are e = cc

pub some_sound : {A : Type 0} (Is : List ℕ → A → Type 0) (read : List ℕ → Option A) → ((w : List ℕ) (x : A) → read w ≡ Some x → Is w x)
    → (ws : Words) (xs : List A) → one_or_more_at read ws ≡ Some xs → (xs ≢ []) × Are Is ws xs
some_sound Is read one [] xs e = cc
some_sound Is read one (w ∷ ws) xs e = let are = are_sound Is read one (w ∷ ws) xs e in (are_some Is w ws xs are, are)

pub some_complete : {A : Type 0} (Is : List ℕ → A → Type 0) (read : List ℕ → Option A) → ((w : List ℕ) (x : A) → Is w x → read w ≡ Some x)
    → (ws : Words) (xs : List A) → (xs ≢ []) × Are Is ws xs → one_or_more_at read ws ≡ Some xs
some_complete Is read one [] [] h = absurd (h.0 refl)
some_complete Is read one [] (x ∷ xs) h = absurd h.1
some_complete Is read one (w ∷ ws) xs h = are_complete Is read one (w ∷ ws) xs h.1
