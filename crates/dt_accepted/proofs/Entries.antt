-- What stands under names, as one more is put there, or another thing in the place of one.
use Rattle.std.proofs.Common.{◌≡◌, ℕ, suc, ◌+◌, ◌≤◌, Bool, true, false, cond, List, [], ◌∷◌, length, get_or, Some, None, refl, sym, ap, ◌∙◌, arith}
use Rattle.std.proofs.lemmas.Bool.{false_from_ne_true}
use Rattle.std.proofs.lemmas.Fmt.{decimal_injective}
use Rattle.std.proofs.lemmas.List.Sums.{sum_by-cons}
use Rattle.std.proofs.lemmas.Map.Text.{is_eq-slice_cmp}
use Rattle.std.proofs.lemmas.Slice.Eq.{bytes_eq-Decides}
use Rattle.std.specs.BTreeMap.{is_at, insert_entry}
use Rattle.std.specs.Cmp.Lexicographic.{slice_cmp}
use Rattle.std.specs.declared.cmp.Ordering.{Ordering}
use Rattle.std.specs.declared.cmp.Ordering.TheVariants.{Less, Equal, Greater}
use Rattle.std.specs.List.{sum_by}
use Rattle.std.specs.Map.{lookup, set_value}
use Rattle.std.specs.Ordering.{is_eq, match_ordering, nat_cmp}
use Rattle.dt_gen.specs.Script.{name}
use Rattle.dt_names.specs.Names.{under}

-- whether a name is this one
abbrev pub at : List ℕ → List ℕ → Bool
at name other = is_at (slice_cmp nat_cmp name) other

pub same_at : (name other : List ℕ) → name ≡ other → at name other ≡ true
same_at name other same = is_eq-slice_cmp name other ∙ (bytes_eq-Decides name other).1 same

pub named_at : (name other : List ℕ) → at name other ≡ true → name ≡ other
named_at name other same = (bytes_eq-Decides name other).0 (sym (is_eq-slice_cmp name other) ∙ same)

pub other_at : (name other : List ℕ) → ¬ (name ≡ other) → at name other ≡ false
other_at name other differ = false_from_ne_true (at name other) (λ there. differ (named_at name other there))

-- one more of them, in the order of the names
abbrev pub more : {A : Type 0} → List (List ℕ × A) → List ℕ → A → List (List ℕ × A)
more es name x = insert_entry (slice_cmp nat_cmp) es name x

-- one thing more
module _ {A : Type 0} (name : List ℕ) (x : A) where
  pub new_stands : (es : List (List ℕ × A)) → under name (more es name x) ≡ Some x
  new_stands [] = ap (λ b. cond b (Some x) None) (same_at name name refl)
  new_stands (e ∷ es) = by (slice_cmp nat_cmp name e.0) refl (new_stands es)
    where
      by : (o : Ordering) → slice_cmp nat_cmp name e.0 ≡ o → under name (more es name x) ≡ Some x
          → under name (match_ordering o ((name, x) ∷ e ∷ es) ((e.0, x) ∷ es) (e ∷ more es name x)) ≡ Some x
      by Less is rest = ap (λ b. cond b (Some x) (under name (e ∷ es))) (same_at name name refl)
      by Equal is rest = ap (λ o. cond (is_eq o) (Some x) (under name es)) is
      by Greater is rest = ap (λ o. cond (is_eq o) (Some e.1) (under name (more es name x))) is ∙ rest

  pub others_stand : (other : List ℕ) → ¬ (other ≡ name) → (es : List (List ℕ × A)) → under other (more es name x) ≡ under other es
  others_stand other differ [] = ap (λ b. cond b (Some x) None) (other_at other name differ)
  others_stand other differ (e ∷ es) = by (slice_cmp nat_cmp name e.0) refl (others_stand other differ es)
    where
      by : (o : Ordering) → slice_cmp nat_cmp name e.0 ≡ o → under other (more es name x) ≡ under other es
          → under other (match_ordering o ((name, x) ∷ e ∷ es) ((e.0, x) ∷ es) (e ∷ more es name x)) ≡ under other (e ∷ es)
      by Less is rest = ap (λ b. cond b (Some x) (under other (e ∷ es))) (other_at other name differ)
      by Equal is rest =
          let here : name ≡ e.0 = named_at name e.0 (ap is_eq is) in
          let apart = other_at other e.0 (λ same. differ (same ∙ sym here)) in
          ap (λ b. cond b (Some x) (under other es)) apart ∙ sym (ap (λ b. cond b (Some e.1) (under other es)) apart)
      by Greater is rest = ap (λ o. cond (at other e.0) (Some e.1) o) rest

  pub one_more : (es : List (List ℕ × A)) → length (more es name x) ≤ length es + 1
  one_more [] = omega arith
  one_more (e ∷ es) = by (slice_cmp nat_cmp name e.0) (one_more es)
    where
      by : (o : Ordering) → length (more es name x) ≤ length es + 1
          → length (match_ordering o ((name, x) ∷ e ∷ es) ((e.0, x) ∷ es) (e ∷ more es name x)) ≤ length (e ∷ es) + 1
      by Less rest = omega arith
      by Equal rest = omega arith
      by Greater rest = omega (arith, rest)

  pub sum_more : (f : A → ℕ) (es : List (List ℕ × A)) → sum_by (λ e. f e.1) (more es name x) ≤ sum_by (λ e. f e.1) es + f x
  sum_more f [] = omega (arith, sum_by-cons (λ (e : List ℕ × A). f e.1) (name, x) [])
  sum_more f (e ∷ es) = by (slice_cmp nat_cmp name e.0) (sum_more f es)
    where
      weight : List ℕ × A → ℕ
      weight = λ e. f e.1

      by : (o : Ordering) → sum_by weight (more es name x) ≤ sum_by weight es + f x
          → sum_by weight (match_ordering o ((name, x) ∷ e ∷ es) ((e.0, x) ∷ es) (e ∷ more es name x)) ≤ sum_by weight (e ∷ es) + f x
      by Less rest = omega (arith, sum_by-cons weight (name, x) (e ∷ es))
      by Equal rest = omega (arith, sum_by-cons weight (e.0, x) es, sum_by-cons weight e es)
      by Greater rest = omega (arith, rest, sum_by-cons weight e (more es name x), sum_by-cons weight e es)

-- another thing in the place of one
module _ {A : Type 0} (test : List ℕ → Bool) where
  pub set_stands : (es : List (List ℕ × A)) (x y : A) → lookup test es ≡ Some x → lookup test (set_value test es y) ≡ Some y
  set_stands [] x y stands = cc
  set_stands (e ∷ es) x y stands = by (test e.0) refl stands (set_stands es x y)
    where
      by : (b : Bool) → test e.0 ≡ b → cond b (Some e.1) (lookup test es) ≡ Some x
          → (lookup test es ≡ Some x → lookup test (set_value test es y) ≡ Some y)
          → lookup test (cond b ((e.0, y) ∷ es) (e ∷ set_value test es y)) ≡ Some y
      by true is stands rest = ap (λ b. cond b (Some y) (lookup test es)) is
      by false is stands rest = ap (λ b. cond b (Some e.1) (lookup test (set_value test es y))) is ∙ rest stands

  pub set_many : (es : List (List ℕ × A)) (y : A) → length (set_value test es y) ≡ length es
  set_many [] y = refl
  set_many (e ∷ es) y = by (test e.0) (set_many es y)
    where
      by : (b : Bool) → length (set_value test es y) ≡ length es → length (cond b ((e.0, y) ∷ es) (e ∷ set_value test es y)) ≡ length (e ∷ es)
      by true rest = refl
      by false rest = ap suc rest

  -- what doesn't stand still doesn't
  pub set_free : (es : List (List ℕ × A)) (y : A) (other : List ℕ → Bool) → lookup other es ≡ None → lookup other (set_value test es y) ≡ None
  set_free [] y other free = refl
  set_free (e ∷ es) y other free = by (test e.0) (other e.0) refl free (set_free es y other)
    where
      by : (b c : Bool) → other e.0 ≡ c → cond c (Some e.1) (lookup other es) ≡ None
          → (lookup other es ≡ None → lookup other (set_value test es y) ≡ None)
          → lookup other (cond b ((e.0, y) ∷ es) (e ∷ set_value test es y)) ≡ None
      by b true is free rest = cc
      by true false is free rest = ap (λ c. cond c (Some y) (lookup other es)) is ∙ free
      by false false is free rest = ap (λ c. cond c (Some e.1) (lookup other (set_value test es y))) is ∙ rest free

  pub sum_set : (f : A → ℕ) (es : List (List ℕ × A)) (x y : A) → lookup test es ≡ Some x → f y ≡ f x
      → sum_by (λ e. f e.1) (set_value test es y) ≡ sum_by (λ e. f e.1) es
  sum_set f [] x y stands same = refl
  sum_set f (e ∷ es) x y stands same = by (test e.0) stands (sum_set f es x y)
    where
      weight : List ℕ × A → ℕ
      weight = λ e. f e.1

      by : (b : Bool) → cond b (Some e.1) (lookup test es) ≡ Some x
          → (lookup test es ≡ Some x → f y ≡ f x → sum_by weight (set_value test es y) ≡ sum_by weight es)
          → sum_by weight (cond b ((e.0, y) ∷ es) (e ∷ set_value test es y)) ≡ sum_by weight (e ∷ es)
      by true is rest =
          let here : e.1 ≡ x = cc in
          let equal : f e.1 ≡ f x = ap f here in
          omega (arith, equal, same, sum_by-cons weight (e.0, y) es, sum_by-cons weight e es)
      by false is rest =
          let later = rest is same in
          omega (arith, later, sum_by-cons weight e (set_value test es y), sum_by-cons weight e es)

-- names that differ
first_of : List ℕ → ℕ
first_of bytes = get_or bytes 0 0

pub letters_differ : (a b : ℕ) (m n : ℕ) → ¬ (a ≡ b) → ¬ (name (a ∷ []) m ≡ name (b ∷ []) n)
unfolding first_of
letters_differ a b m n differ same = differ (ap first_of same)

behind_first : List ℕ → List ℕ
behind_first [] = []
behind_first (b ∷ bytes) = bytes

pub numbers_differ : (a m n : ℕ) → m ≤ 99 → n ≤ 99 → ¬ (m ≡ n) → ¬ (name (a ∷ []) m ≡ name (a ∷ []) n)
unfolding behind_first
numbers_differ a m n few less differ same = differ (decimal_injective m n (omega arith) (omega arith) (ap behind_first same))
