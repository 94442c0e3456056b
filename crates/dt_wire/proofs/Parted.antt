-- the parts of a struct, made one after another
use Rattle.std.proofs.Common.{◌≡◌, inl, inr, ℕ, suc, ℤ, ◌+◌, ◌-◌, ◌<◌, List, [], ◌∷◌, ◌++◌, Result, Ok, Err, IsErr, refl, sym, ap, subst, ◌∙◌, append-nil, arith}
use Rattle.std.specs.List.{AllByRecursion}
use Rattle.std.proofs.lemmas.Grind.{flat_map-append}
use Rattle.dt_form.specs.declared.form.PartOf.{PartOf}
use Rattle.dt_type.specs.declared.datatype.Seen.{Seen}
use Rattle.dt_wire.specs.Building.{calls_of, calls_in, calls_among, IsBuilt}
use Rattle.dt_wire.specs.Import.{IsFirstCause, IsTaken}
use Rattle.dt_wire.specs.Reading.{Bytes, Reader, bind, on_ok, give, map_at, pair_at, list_at, int_at, address_at, part_at}
use Rattle.dt_wire.specs.declared.stop.Stop.{Stop}
use Rattle.dt_wire.specs.declared.stop.Stop.TheVariants.{Bad, Refused}
use Rattle.dt_wire.proofs.Made.{first_front, first_back, taken_both, bind_wrong, map_wrong, ok_same, stop_map}
use Rattle.dt_wire.proofs.Prefixed.{prefixed, list_stop}
use Rattle.dt_wire.proofs.Readers.{on_ok-ok, bind_ok}
use Rattle.dt_wire.proofs.Spells.{map_again}

-- one part
pair_wrong : {A B : Type 0} (r : Reader A) (s : Reader B) (bytes : Bytes) → IsErr (r bytes) → IsErr (pair_at r s bytes)
unfolding pair_at
pair_wrong r s bytes h = bind_wrong r _ bytes h

pair_wrong_after : {A B : Type 0} (r : Reader A) (s : Reader B) (bytes after : Bytes) (x : A) → r bytes ≡ Ok (x, after) → IsErr (s after) → IsErr (pair_at r s bytes)
unfolding pair_at
pair_wrong_after r s bytes after x e h = subst (λ v. IsErr v) (sym (bind_ok r _ bytes after x e)) (bind_wrong s _ after h)

abbrev pub part_of : ℤ → ℤ → Seen → PartOf Seen
part_of len disp old = record { len = len; disp = disp; old = old }

in_three : (len disp : ℤ) (e : Result (Seen × Bytes) Bytes) →
    on_ok (on_ok (on_ok e (λ t. give (disp, t))) (λ y. give (len, y))) (λ (x : ℤ × (ℤ × Seen)). give (part_of x.0 x.1.0 x.1.1)) ≡ on_ok e (λ t. give (part_of len disp t))
in_three len disp (Ok x) = refl
in_three len disp (Err left) = refl

module _ (old : Reader Seen) (bytes : Bytes) where
  pub no_len : IsErr (int_at bytes) → IsErr (part_at old bytes)
  unfolding part_at
  no_len h = map_wrong _ _ bytes (pair_wrong int_at _ bytes h)

  pub no_disp : (after : Bytes) (len : ℤ) → int_at bytes ≡ Ok (len, after) → IsErr (address_at after) → IsErr (part_at old bytes)
  unfolding part_at
  no_disp after len e h = map_wrong _ _ bytes (pair_wrong_after int_at _ bytes after len e (pair_wrong address_at old after h))

  pub part_read : (after rest : Bytes) (len disp : ℤ) → int_at bytes ≡ Ok (len, after) → address_at after ≡ Ok (disp, rest) → part_at old bytes ≡ map_at (part_of len disp) old rest
  unfolding part_at map_at pair_at bind
  part_read after rest len disp e f =
      ap (λ v. on_ok (on_ok v (λ x. bind (pair_at address_at old) (λ y. give (x, y)))) (λ (x : ℤ × (ℤ × Seen)). give (part_of x.0 x.1.0 x.1.1))) e
      ∙ (ap (λ v. on_ok (on_ok (on_ok v (λ x. bind old (λ y. give (x, y)))) (λ y. give (len, y))) (λ (x : ℤ × (ℤ × Seen)). give (part_of x.0 x.1.0 x.1.1))) f
      ∙ in_three len disp (old rest))

  pub part_stop : (levels : ℕ) (after rest : Bytes) (len disp : ℤ) (stop : Stop) → int_at bytes ≡ Ok (len, after) → address_at after ≡ Ok (disp, rest)
      → IsBuilt (calls_of levels) (old rest) (Err stop) → IsBuilt (calls_in levels) (part_at old bytes) (Err stop)
  part_stop levels after rest len disp stop e f h =
      subst (λ v. IsBuilt (calls_in levels) v (Err stop)) (sym (part_read after rest len disp e f))
      (stop_map (calls_of levels) (calls_in levels) (part_of len disp) old rest stop (λ t. ([], sym (append-nil (calls_of levels t)))) h)

  pub part_made : (after rest behind : Bytes) (len disp : ℤ) (t : Seen) → int_at bytes ≡ Ok (len, after) → address_at after ≡ Ok (disp, rest) → old rest ≡ Ok (t, behind)
      → part_at old bytes ≡ Ok (part_of len disp t, behind)
  part_made after rest behind len disp t e f g = part_read after rest len disp e f ∙ map_again (part_of len disp) old rest behind t g

-- what is read behind some parts
pub err_is : {A B : Type 0} (e : Result A B) → IsErr e → (left : B) × (e ≡ Err left)
err_is (Ok x) h = cc h
err_is (Err left) h = (left, refl)

prefixed_read : {A : Type 0} (xs ys : List A) (e : Result (List A × Bytes) Bytes) (rest : Bytes) → prefixed xs e ≡ Ok (ys, rest) → (more : List A) × (e ≡ Ok (more, rest)) × (ys ≡ xs ++ more)
prefixed_read {A} xs ys (Ok y) rest h =
    let same = ok_same (prefixed xs (Ok y)) (xs ++ y.0) ys y.1 rest refl h in
    (y.0, ap (λ (t : Bytes). Ok (y.0, t)) same.1, sym same.0)
prefixed_read xs ys (Err left) rest h = cc h

list_read : {A : Type 0} (r : Reader A) (k : ℕ) (bytes rest : Bytes) (ys : List A) → list_at r (suc k) bytes ≡ Ok (ys, rest) →
    (x : A) × (after : Bytes) × (more : List A) × (r bytes ≡ Ok (x, after)) × (ys ≡ x ∷ more)
unfolding bind
list_read {A} r k bytes rest ys e =
    let h = on_ok-ok (r bytes) (λ x. bind (list_at r k) (λ more. give (x ∷ more))) (ys, rest) e in
    let g = on_ok-ok (list_at r k h.1) (λ more. give (h.0 ∷ more)) (ys, rest) h.3 in
    (h.0, h.1, g.0, h.2, sym (ok_same (give (h.0 ∷ g.0) g.1) (h.0 ∷ g.0) ys g.1 rest refl g.3).0)

module _ (levels : ℕ) (r : Reader (PartOf Seen)) (n i : ℕ) (rest : Bytes) (parts : List (PartOf Seen)) where
  among_more : (p : PartOf Seen) (more : List (PartOf Seen)) → calls_among levels (parts ++ p ∷ more) ≡ calls_among levels parts ++ (calls_in levels p ++ calls_among levels more)
  among_more p more = flat_map-append (calls_in levels) parts (p ∷ more)

  pub parts_stop : (stop : Stop) → i < n → AllByRecursion IsTaken (calls_among levels parts) → IsBuilt (calls_in levels) (r rest) (Err stop)
      → IsBuilt (calls_among levels) (prefixed parts (list_at r (n - i) rest)) (Err stop)
  parts_stop Bad less all h = let wrong = err_is (r rest) h in list_stop r n i rest wrong.0 parts less wrong.1
  parts_stop (Refused fault) less all (inl none) = inl none
  parts_stop (Refused fault) less all (inr h) =
      inr (λ ys after e.
      let more : n - i ≡ suc (n - (i + 1)) = omega (arith, less) in
      let p = prefixed_read parts ys (list_at r (n - i) rest) after e in
      let q = list_read r (n - (i + 1)) rest after p.0 (ap (λ (k : ℕ). list_at r k rest) (sym more) ∙ p.1) in
      let whole : ys ≡ parts ++ q.0 ∷ q.2 = p.2 ∙ ap (λ zs. parts ++ zs) q.4 in
      subst (λ zs. IsFirstCause (calls_among levels zs) fault) (sym whole)
      (subst (λ fs. IsFirstCause fs fault) (sym (among_more q.0 q.2))
      (first_back (calls_among levels parts) _ fault all (first_front (calls_in levels q.0) (calls_among levels q.2) fault (h q.0 q.1 q.3)))))

  pub parts_taken : (p : PartOf Seen) → AllByRecursion IsTaken (calls_among levels parts) → AllByRecursion IsTaken (calls_in levels p) → AllByRecursion IsTaken (calls_among levels (parts ++ p ∷ []))
  parts_taken p all one =
      subst (λ fs. AllByRecursion IsTaken fs) (sym (among_more p []))
      (taken_both (calls_among levels parts) (calls_in levels p ++ []) all (subst (λ fs. AllByRecursion IsTaken fs) (sym (append-nil (calls_in levels p))) one))
