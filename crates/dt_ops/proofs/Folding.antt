-- Values that are joined in their order: neighbours may be joined first, where the operation is associative on them.
use Rattle.std.proofs.Common.{◌≡◌, Some, List, [], ◌∷◌, ◌++◌, refl, ap, ◌∙◌}
use Rattle.std.specs.List.{AllByRecursion, fold, reduce}
use Rattle.dt_ops.specs.Bracketing.{IsBracketing, one, two}

-- an operation that keeps to some values, and is associative on them
pub record IsOrderFree {A : Type 0} (op : A → A → A) (P : A → Type 0) : Type 0 where
  pub closed : (a b : A) → P a → P b → P (op a b)
  pub assoc : (a b c : A) → P a → P b → P c → op (op a b) c ≡ op a (op b c)

module _ {A : Type 0} (op : A → A → A) (P : A → Type 0) (free : IsOrderFree op P) where
  pub fold_stays : (x : A) (xs : List A) → P x → AllByRecursion P xs → P (fold op x xs)
  fold_stays x [] px all = px
  fold_stays x (y ∷ ys) px all = fold_stays (op x y) ys (free.closed x y px all.0) all.1

  -- what stands before the first value may be joined last
  fold_from : (x y : A) (ys : List A) → P x → P y → AllByRecursion P ys → fold op (op x y) ys ≡ op x (fold op y ys)
  fold_from x y [] px py all = refl
  fold_from x y (z ∷ zs) px py all =
      ap (λ v. fold op v zs) (free.assoc x y z px py all.0) ∙ fold_from x (op y z) zs px (free.closed y z py all.0) all.1

  fold-append : (x : A) (xs : List A) (y : A) (ys : List A) → P x → AllByRecursion P xs → P y → AllByRecursion P ys
      → fold op x (xs ++ y ∷ ys) ≡ op (fold op x xs) (fold op y ys)
  fold-append x [] y ys px all py more = fold_from x y ys px py more
  fold-append x (z ∷ zs) y ys px all py more = fold-append (op x z) zs y ys (free.closed x z px all.0) all.1 py more

  both_parts : (xs ys : List A) → AllByRecursion P (xs ++ ys) → AllByRecursion P xs × AllByRecursion P ys
  both_parts [] ys all = (tt, all)
  both_parts (x ∷ xs) ys all = let rest = both_parts xs ys all.1 in ((all.0, rest.0), rest.1)

  reduce-append : (xs ys : List A) (x y : A) → AllByRecursion P xs → AllByRecursion P ys → reduce op xs ≡ Some x → reduce op ys ≡ Some y
      → reduce op (xs ++ ys) ≡ Some (op x y)
  reduce-append [] ys x y all more first last = absurd (cc first)
  reduce-append (a ∷ rest) [] x y all more first last = absurd (cc last)
  reduce-append (a ∷ rest) (b ∷ bs) x y all more first last =
      let one : fold op a rest ≡ x = cc first in
      let other : fold op b bs ≡ y = cc last in
      ap Some (fold-append a rest b bs all.0 all.1 more.0 more.1 ∙ ap (λ v. op v (fold op b bs)) one ∙ ap (op x) other)

  -- a bracketing comes to what the values are joined to from the first on
  pub bracketing_is_fold : {xs : List A} {x : A} → IsBracketing op xs x → AllByRecursion P xs → reduce op xs ≡ Some x
  bracketing_is_fold (one x) all = refl
  bracketing_is_fold (two xs ys x y first last) all =
      let parts = both_parts xs ys all in
      reduce-append xs ys x y parts.0 parts.1 (bracketing_is_fold first parts.0) (bracketing_is_fold last parts.1)
