-- lists that are read on
use Rattle.std.proofs.Common.{◌≡◌, ℕ, suc, ◌+◌, ◌-◌, ◌<◌, ◌≤◌, List, [], ◌∷◌, ◌++◌, Result, Ok, Err, IsErr, refl, sym, ap, subst, ◌∙◌, append_assoc, append-nil, arith, rules}
use Rattle.dt_wire.specs.Reading.{Bytes, Reader, bind, on_ok, ◌>>=◌, give, list_at}

-- what was read so far, and then the rest
abbrev pub prefixed : {A : Type 0} → List A → Result (List A × Bytes) Bytes → Result (List A × Bytes) Bytes
prefixed xs (Ok y) = Ok (xs ++ y.0, y.1)
prefixed xs (Err left) = Err left

one_first : {A : Type 0} (xs : List A) (x : A) (e : Result (List A × Bytes) Bytes) → prefixed xs (on_ok e (λ more. give (x ∷ more))) ≡ prefixed (xs ++ x ∷ []) e
one_first xs x (Ok y) = let same : xs ++ x ∷ y.0 ≡ (xs ++ x ∷ []) ++ y.0 = sym (append_assoc xs (x ∷ []) y.0) in ap (λ ys. Ok (ys, y.1)) same
one_first xs x (Err left) = refl

nothing_first : {A : Type 0} (e : Result (List A × Bytes) Bytes) → prefixed [] e ≡ e
nothing_first (Ok y) = refl
nothing_first (Err left) = refl

module _ {A : Type 0} (r : Reader A) (n i : ℕ) (bytes : Bytes) where
  abbrev more_at : ℕ → Bytes → Result (List A × Bytes) Bytes
  more_at k rest = list_at r (n - k) rest

  pub list_next : (rest : Bytes) (xs : List A) (x : A) → i < n → r bytes ≡ Ok (x, rest) → prefixed xs (list_at r (n - i) bytes) ≡ prefixed (xs ++ x ∷ []) (list_at r (n - (i + 1)) rest)
  unfolding bind
  list_next rest xs x less e =
      let more : n - i ≡ suc (n - (i + 1)) = omega (arith, less) in
      ap (λ (k : ℕ). prefixed xs (list_at r k bytes)) more
      ∙ (ap (λ v. prefixed xs (on_ok v (λ first. list_at r (n - (i + 1)) >>= λ others. give (first ∷ others)))) e
      ∙ one_first xs x (list_at r (n - (i + 1)) rest))

  pub list_stop : (left : Bytes) (xs : List A) → i < n → r bytes ≡ Err left → IsErr (prefixed xs (list_at r (n - i) bytes))
  unfolding bind
  list_stop left xs less e =
      let more : n - i ≡ suc (n - (i + 1)) = omega (arith, less) in
      let same : prefixed xs (list_at r (n - i) bytes) ≡ Err left =
      ap (λ (k : ℕ). prefixed xs (list_at r k bytes)) more
      ∙ ap (λ v. prefixed xs (on_ok v (λ first. list_at r (n - (i + 1)) >>= λ others. give (first ∷ others)))) e in
      subst (λ v. IsErr v) (sym same) (is_error left)
    where
      is_error : (left : Bytes) → IsErr {T = List A × Bytes} {E = Bytes} (Err left)
      is_error left = search rules

  pub list_end : (xs : List A) → n ≤ i → prefixed xs (list_at r (n - i) bytes) ≡ Ok (xs, bytes)
  list_end xs over =
      let none : n - i ≡ 0 = omega (arith, over) in
      ap (λ (k : ℕ). prefixed xs (list_at r k bytes)) none ∙ ap (λ ys. Ok (ys, bytes)) (append-nil xs)

  pub list_first : list_at r n bytes ≡ prefixed [] (list_at r (n - 0) bytes)
  list_first = let same : n ≡ n - 0 = omega arith in ap (λ (k : ℕ). list_at r k bytes) same ∙ sym (nothing_first (list_at r (n - 0) bytes))
