-- datatypes made of what was read
use Rattle.std.proofs.Common.{◌≡◌, inl, inr, ℕ, suc, List, [], ◌∷◌, ◌++◌, map, flat_map, Result, Ok, Err, IsErr, refl, sym, ap, subst, ◌∙◌, append-nil, slice_get}
use Rattle.std.specs.List.{AllByRecursion}
use Rattle.dt_kinds.specs.declared.kind.Kind.{Kind}
use Rattle.dt_form.specs.declared.form.FormOf.{FormOf}
use Rattle.dt_form.specs.declared.form.FormOf.TheVariants as form
use Rattle.dt_form.specs.declared.form.PartOf.{PartOf}
use Rattle.dt_type.specs.Answer.{IsCause, IsMade}
use Rattle.dt_type.specs.Datatype.{Layer}
use Rattle.dt_type.specs.Form.{result_of}
use Rattle.dt_type.specs.declared.datatype.Seen.{Seen, out-roll-Seen}
use Rattle.dt_type.specs.declared.fault.CtorFault.{CtorFault}
use Rattle.dt_wire.specs.Building.{with_old, calls_of, calls_in, calls_among, IsBuilt, IsReadAs, IsFirstIn}
use Rattle.dt_wire.specs.Import.{IsFirstCause, IsTaken, calls}
use Rattle.dt_wire.specs.Reading.{Bytes, Reader, bind, on_ok, give, item_at, kinds, map_at}
use Rattle.dt_wire.specs.declared.args.Arguments.{Arguments}
use Rattle.dt_wire.specs.declared.args.Arguments.TheVariants.{Dup, Contiguous, Vector, Hvector, Indexed, Hindexed, IndexedBlock, HindexedBlock, Subarray, Darray, Resized}
use Rattle.dt_wire.specs.declared.stop.Stop.{Stop}
use Rattle.dt_wire.specs.declared.stop.Stop.TheVariants.{Bad, Refused}
use Rattle.dt_wire.proofs.Readers.{on_ok-ok}
use Rattle.dt_wire.proofs.Spells.{map_again}

-- the first constructors of some
pub first_front : (forms more : List (FormOf Seen)) (fault : CtorFault) → IsFirstCause forms fault → IsFirstCause (forms ++ more) fault
first_front [] more fault h = absurd h
first_front (f ∷ forms) more fault (inl h) = inl h
first_front (f ∷ forms) more fault (inr h) = inr (h.0, first_front forms more fault h.1)

pub first_back : (forms more : List (FormOf Seen)) (fault : CtorFault) → AllByRecursion IsTaken forms → IsFirstCause more fault → IsFirstCause (forms ++ more) fault
first_back [] more fault all h = h
first_back (f ∷ forms) more fault all h = inr (all.0, first_back forms more fault all.1 h)

pub taken_both : (forms more : List (FormOf Seen)) → AllByRecursion IsTaken forms → AllByRecursion IsTaken more → AllByRecursion IsTaken (forms ++ more)
taken_both [] more all rest = rest
taken_both (f ∷ forms) more all rest = (all.0, taken_both forms more all.1 rest)

abbrev pub Begins : List (FormOf Seen) → List (FormOf Seen) → Type 0
Begins forms whole = (more : List (FormOf Seen)) × (whole ≡ forms ++ more)

pub first_in : (forms whole : List (FormOf Seen)) (fault : CtorFault) → Begins forms whole → IsFirstCause forms fault → IsFirstCause whole fault
first_in forms whole fault h first = subst (λ fs. IsFirstCause fs fault) (sym h.1) (first_front forms h.0 fault first)

-- the constructors of what a constructor makes
pub calls_result : (levels : ℕ) (f : FormOf Seen) → calls_of levels (result_of f) ≡ calls levels f
calls_result levels f = ap (λ (l : Layer). calls levels l.form) (out-roll-Seen _)

one_old : (levels : ℕ) (t : Seen) (f : FormOf Seen) → (calls_of levels t ++ []) ++ f ∷ [] ≡ calls_of levels t ++ f ∷ []
one_old levels t f = ap (λ fs. fs ++ f ∷ []) (append-nil (calls_of levels t))

pub calls_with_old : (levels : ℕ) (a : Arguments) (t : Seen) → calls (suc levels) (with_old a t) ≡ calls_of levels t ++ with_old a t ∷ []
calls_with_old levels Dup t = one_old levels t _
calls_with_old levels (Contiguous count) t = one_old levels t _
calls_with_old levels (Vector count block stride) t = one_old levels t _
calls_with_old levels (Hvector count block stride) t = one_old levels t _
calls_with_old levels (Indexed blocks) t = one_old levels t _
calls_with_old levels (Hindexed blocks) t = one_old levels t _
calls_with_old levels (IndexedBlock block disps) t = one_old levels t _
calls_with_old levels (HindexedBlock block disps) t = one_old levels t _
calls_with_old levels (Subarray dims order) t = one_old levels t _
calls_with_old levels (Darray size rank dims order) t = one_old levels t _
calls_with_old levels (Resized lb extent) t = one_old levels t _

pub calls_of_parts : (levels : ℕ) (parts : List (PartOf Seen)) → calls (suc levels) (form.Struct parts) ≡ calls_among levels parts ++ form.Struct parts ∷ []
calls_of_parts levels parts = ap (λ fs. fs ++ form.Struct parts ∷ []) (among parts)
  where
    among : (ps : List (PartOf Seen)) → flat_map (calls_of levels) (map (λ p. p.old) ps) ≡ calls_among levels ps
    among [] = refl
    among (p ∷ ps) = ap (λ fs. calls_in levels p ++ fs) (among ps)

-- a reader stopped, and so does one that begins with it
err_on : {A B : Type 0} (e : Result (A × Bytes) Bytes) (f : A → Reader B) → IsErr e → IsErr (on_ok e f)
err_on (Ok x) f h = cc h
err_on (Err left) f h = refl

pub is_error : {A B : Type 0} (e : Result A B) (left : B) → e ≡ Err left → IsErr e
is_error {A} {B} e left same = subst (λ (v : Result A B). IsErr v) (sym same) refl

pub bind_wrong : {A B : Type 0} (r : Reader A) (f : A → Reader B) (bytes : Bytes) → IsErr (r bytes) → IsErr (bind r f bytes)
unfolding bind
bind_wrong r f bytes h = err_on (r bytes) f h

pub map_wrong : {A B : Type 0} (g : A → B) (r : Reader A) (bytes : Bytes) → IsErr (r bytes) → IsErr (map_at g r bytes)
unfolding map_at
map_wrong g r bytes h = bind_wrong r (λ x. give (g x)) bytes h

-- what two readings of the same bytes give
pub ok_same : {A : Type 0} (e : Result (A × Bytes) Bytes) (x y : A) (u v : Bytes) → e ≡ Ok (x, u) → e ≡ Ok (y, v) → (x ≡ y) × (u ≡ v)
ok_same {A} e x y u v h k =
    let same : ◌≡◌ {A = A × Bytes} (x, u) (y, v) = cc (h, k) in
    (ap (λ (p : A × Bytes). p.0) same, ap (λ (p : A × Bytes). p.1) same)

pub map_read : {A B : Type 0} (g : A → B) (r : Reader A) (bytes rest : Bytes) (y : B) → map_at g r bytes ≡ Ok (y, rest) → (x : A) × (r bytes ≡ Ok (x, rest)) × (g x ≡ y)
unfolding map_at bind
map_read {A} {B} g r bytes rest y e =
    let h = on_ok-ok (r bytes) (λ x. give (g x)) (y, rest) e in
    let same = ok_same (give (g h.0) h.1) (g h.0) y h.1 rest refl h.3 in
    (h.0, h.2 ∙ ap (λ (t : Bytes). Ok (h.0, t)) same.1, same.0)

pub map_same : {A B : Type 0} (g : A → B) (r s : Reader A) (bytes after : Bytes) → r bytes ≡ s after → map_at g r bytes ≡ map_at g s after
unfolding map_at bind
map_same g r s bytes after e = ap (λ v. on_ok v (λ x. give (g x))) e

-- the answer of a reader that stopped, where more is made of what it reads
pub stop_map : {A B : Type 0} (within : A → List (FormOf Seen)) (around : B → List (FormOf Seen)) (g : A → B) (r : Reader A) (bytes : Bytes) (stop : Stop)
    → ((x : A) → Begins (within x) (around (g x))) → IsBuilt within (r bytes) (Err stop) → IsBuilt around (map_at g r bytes) (Err stop)
stop_map within around g r bytes Bad begins h = map_wrong g r bytes h
stop_map within around g r bytes (Refused fault) begins (inl none) = inl none
stop_map within around g r bytes (Refused fault) begins (inr h) =
    inr (λ y rest e.
    let x = map_read g r bytes rest y e in
    subst (λ z. IsFirstCause (around z) fault) x.2 (first_in (within x.0) (around (g x.0)) fault (begins x.0) (h x.0 rest x.1)))

-- a constructor was called last
taken : (f : FormOf Seen) (t : Seen) → IsMade f t → IsTaken f
taken f t made = record {
  arguments = made.arguments;
  allowed = record { in_range = made.in_range; shallow = made.shallow; light = made.light };
}

module _ (levels : ℕ) (read : Result (Seen × Bytes) Bytes) (f : FormOf Seen) (inner : List (FormOf Seen)) (rest : Bytes) (is : read ≡ Ok (result_of f, rest))
    (whole : calls (suc levels) f ≡ inner ++ f ∷ []) (all : AllByRecursion IsTaken inner) where
  all_calls : calls_of (suc levels) (result_of f) ≡ inner ++ f ∷ []
  all_calls = calls_result (suc levels) f ∙ whole

  pub last_made : (t : Seen) → IsMade f t → IsReadAs (calls_of (suc levels)) read t rest
  last_made t made = record {
    is = is ∙ ap (λ u. Ok (u, rest)) (sym made.value);
    taken =
        subst (λ u. AllByRecursion IsTaken (calls_of (suc levels) u)) (sym made.value)
        (subst (λ fs. AllByRecursion IsTaken fs) (sym all_calls) (taken_both inner (f ∷ []) all (taken f t made, tt)));
  }

  pub last_refused : (fault : CtorFault) → IsCause f fault → IsFirstIn (calls_of (suc levels)) read fault
  last_refused fault cause =
      inr (λ t other e.
      let same : t ≡ result_of f = (ok_same read t (result_of f) other rest e is).0 in
      subst (λ u. IsFirstCause (calls_of (suc levels) u) fault) (sym same)
      (subst (λ fs. IsFirstCause fs fault) (sym all_calls) (first_back inner (f ∷ []) fault all (inl cause))))

-- no constructor is called
pub named_read : (levels : ℕ) (bytes rest : Bytes) (kind : Kind) (t : Seen) → item_at (slice_get kinds) bytes ≡ Ok (kind, rest) → t ≡ result_of (form.Named kind)
    → IsReadAs (calls_of (suc levels)) (map_at result_of (map_at (λ k. form.Named k) (item_at (slice_get kinds))) bytes) t rest
named_read levels bytes rest kind t e made = record {
  is =
      map_again result_of (map_at (λ k. form.Named k) (item_at (slice_get kinds))) bytes rest (form.Named kind) (map_again (λ k. form.Named k) (item_at (slice_get kinds)) bytes rest kind e)
      ∙ ap (λ u. Ok (u, rest)) (sym made);
  taken =
      subst (λ u. AllByRecursion IsTaken (calls_of (suc levels) u)) (sym made)
      (subst (λ fs. AllByRecursion IsTaken fs) (sym (calls_result (suc levels) (form.Named kind))) tt);
}
