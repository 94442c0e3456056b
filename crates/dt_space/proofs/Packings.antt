-- Operations that are ready, and what is packed of them.
use Rattle.std.specs.Prelude.{◌≡◌, ℕ, ℤ, ◌≤ℤ◌, ◌+◌, ◌<◌, true, false, min, pos, IsTrue, Option, Some, None, List, [], ◌++◌, take, drop, length, Result, Ok, Err, Bool, ◌↔◌, MatchResult, IsErrAnd}
use Rattle.std.specs.Option.{IsSomeAnd}
use Rattle.std.proofs.Common.{refl, sym, ap, subst, ◌∙◌, ◌≤◌, arith}
use Rattle.std.proofs.lemmas.List.{take_at}
use Rattle.dt_map.specs.Elements.{elements, are_inside, Overlaps}
use Rattle.dt_map.specs.Packed.{packed, total}
use Rattle.dt_map.proofs.Copies.{total-shift}
use Rattle.dt_pack.proofs.Taking.{whole_taken}
use Rattle.dt_pack.specs.Session.{Session, placed, total_of, rest_of, next_bytes}
use Rattle.dt_type.specs.declared.datatype.Seen.{Seen}
use Rattle.dt_type.specs.Datatype.{typemap_of}
use Rattle.dt_unpack.specs.Session as unpack
use Rattle.dt_unpack.specs.declared.fault.UnpackFault.{UnpackFault}
use Rattle.dt_unpack.specs.declared.fault.UnpackFault.TheVariants as why
use Rattle.dt_space.specs.declared.fault.SpaceFault.{SpaceFault}
use Rattle.dt_space.specs.Fault.{unpack_fault}
use Rattle.dt_space.specs.declared.number.Kept.{Kept}
use Rattle.dt_space.specs.declared.number.Operation.{Operation}
use Rattle.dt_space.specs.Packing.{IsReady, IsUnpackRefusal, IsPacking, IsUnpacking, IsPacked, IsUnpacked, count_of, elements_of}
use Rattle.dt_space.specs.Packing as packing
use Rattle.dt_space.proofs.Numbers.{not_ok}
use Rattle.dt_space.specs.Space.{Space, kept_at}

no : false ≡ true → ⊥
no e = cc

-- a fact of the datatype of a ready operation
pub ready_with : (s : Space) (op : Operation) (t : Seen) (Is : Seen → Type 0) → IsReady s op (λ u. u ≡ t) → Is t → IsReady s op Is
ready_with s op t Is ready is = by (kept_at s op.ty) ready
  where
    by : (o : Option Kept) → IsSomeAnd o (λ kept. (kept.committed ≡ true) × (pos 0 ≤ℤ op.count) × (kept.ty ≡ t))
        → IsSomeAnd o (λ kept. (kept.committed ≡ true) × (pos 0 ≤ℤ op.count) × Is kept.ty)
    by None ready = absurd ready
    by (Some kept) ready = (ready.0, ready.1, subst Is (sym ready.2) is)

-- where a fact holds, what follows from it
pub ready_so : (s : Space) (op : Operation) (Is So : Seen → Type 0) → IsReady s op Is → ((t : Seen) → Is t → So t) → IsReady s op So
ready_so s op Is So ready so = by (kept_at s op.ty) ready
  where
    by : (o : Option Kept) → IsSomeAnd o (λ kept. (kept.committed ≡ true) × (pos 0 ≤ℤ op.count) × Is kept.ty)
        → IsSomeAnd o (λ kept. (kept.committed ≡ true) × (pos 0 ≤ℤ op.count) × So kept.ty)
    by None ready = absurd ready
    by (Some kept) ready = (ready.0, ready.1, so kept.ty ready.2)

-- a fact that doesn't speak of the datatype
pub ready_is : (s : Space) (op : Operation) (Is : Seen → Type 0) {P : Type 0} → IsReady s op Is → ((t : Seen) → Is t → P) → P
ready_is s op Is {P} ready so = by (kept_at s op.ty) ready
  where
    by : (o : Option Kept) → IsSomeAnd o (λ kept. (kept.committed ≡ true) × (pos 0 ≤ℤ op.count) × Is kept.ty) → P
    by None ready = absurd ready
    by (Some kept) ready = so kept.ty ready.2

-- a take of all packed bytes
pub all_taken : (s : Session) (buffer old new : List ℕ) (n : ℕ) → are_inside (length buffer) (placed s) ≡ true → s.position ≡ 0 → length old ≡ total_of s
    → n ≡ min (length old) (rest_of s) → new ≡ next_bytes s buffer n ++ drop n old → length new ≡ length old → new ≡ packed s.rep (placed s) buffer
all_taken s buffer old new n inside start room count bytes long =
    sym (take_at new (drop (length new) []) (length old) long) ∙ whole_taken s buffer old new [] n (length old) inside start room room count bytes long

-- elements lie in a buffer where no answer says that they don't
pub inside_if_ok : {T E : Type 0} (r : Result T E) (x : T) (e : E) (b : Bool) → r ≡ Ok x → (r ≡ Err e ↔ ¬ IsTrue b) → IsTrue b
inside_if_ok r x e true ok iff = refl
inside_if_ok r x e false ok iff = absurd (not_ok r x e ok (iff.1 (λ yes. no yes)))

-- an answer that is this refusal
pub err_so : {A : Type 0} (r : Result A SpaceFault) (fault : SpaceFault) (Is : A → Type 0) (Cause : SpaceFault → Type 0) → IsErrAnd r (λ f. f ≡ fault) → Cause fault → MatchResult r Is Cause
err_so (Ok x) fault Is Cause is cause = absurd is
err_so (Err f) fault Is Cause is cause = subst Cause (sym is) cause

-- why no session unpacks
module _ (s : Space) (op : Operation) (len : ℕ) (t : Seen) (r : Result unpack.Session UnpackFault) where
  pub refuses : (fault : UnpackFault) → r ≡ Err fault → IsReady s op (λ u. u ≡ t) → (r ≡ Err why.Outside ↔ ¬ IsTrue (are_inside len (elements_of op t)))
      → (r ≡ Err why.Overlap → IsTrue (are_inside len (elements_of op t)) × Overlaps (elements_of op t)) → IsUnpackRefusal s op len (unpack_fault fault)
  refuses why.Outside is ready outside overlap = ready_with s op t (λ u. ¬ IsTrue (are_inside len (elements_of op u))) ready (outside.0 is)
  refuses why.Overlap is ready outside overlap = ready_with s op t (λ u. IsTrue (are_inside len (elements_of op u)) × Overlaps (elements_of op u)) ready (overlap is)
  refuses why.NoMemory is ready outside overlap = tt

  -- the same, where count and origin are these numbers
  pub refuses_at : (n : ℕ) (x : ℤ) (fault : UnpackFault) → n ≡ count_of op → x ≡ op.origin → r ≡ Err fault → IsReady s op (λ u. u ≡ t)
      → (r ≡ Err why.Outside ↔ ¬ IsTrue (are_inside len (elements (typemap_of t) n x)))
      → (r ≡ Err why.Overlap → IsTrue (are_inside len (elements (typemap_of t) n x)) × Overlaps (elements (typemap_of t) n x)) → IsUnpackRefusal s op len (unpack_fault fault)
  refuses_at n x fault count origin is ready outside overlap =
      let same : elements (typemap_of t) n x ≡ elements_of op t = ap (λ k. elements (typemap_of t) k x) count ∙ ap (elements (typemap_of t) (count_of op)) origin in
      refuses fault is ready (subst (λ es. r ≡ Err why.Outside ↔ ¬ IsTrue (are_inside len es)) same outside)
      (subst (λ es. r ≡ Err why.Overlap → IsTrue (are_inside len es) × Overlaps es) same overlap)

-- as many packed bytes as the operation has, wherever its session says that they lie
pub pack_total : (op : Operation) (len : ℕ) (t : Seen) (session : Session) → IsPacking op len t session → total_of session ≡ packing.total_of op t
pack_total op len t session is =
    sym (total-shift session.rep session.origin session.elements) ∙ ap (total session.rep) is.2 ∙ ap (λ (s : Session). total s.rep (elements_of op t)) is.0

pub unpack_total : (op : Operation) (len : ℕ) (t : Seen) (session : unpack.Session) → IsUnpacking op len t session → unpack.total_of session ≡ packing.total_of op t
unpack_total op len t session is =
    sym (total-shift session.rep session.origin session.elements) ∙ ap (total session.rep) is.2 ∙ ap (λ (s : unpack.Session). total s.rep (elements_of op t)) is.0

pub pack_short : (s : Space) (op : Operation) (len room position bytes : ℕ) (session : Session) → IsReady s op (λ t. IsPacking op len t session) → bytes ≡ total_of session → room < position + bytes
    → IsReady s op (λ t. room < position + packing.total_of op t)
pack_short s op len room position bytes session ready all short =
    ready_so s op (λ t. IsPacking op len t session) (λ t. room < position + packing.total_of op t) ready
    (λ t is. subst (λ n. room < position + n) (all ∙ pack_total op len t session is) short)

pub unpack_short : (s : Space) (op : Operation) (len room position bytes : ℕ) (session : unpack.Session) → IsReady s op (λ t. IsUnpacking op len t session) → bytes ≡ unpack.total_of session
    → room < position + bytes → IsReady s op (λ t. room < position + packing.total_of op t)
unpack_short s op len room position bytes session ready all short =
    ready_so s op (λ t. IsUnpacking op len t session) (λ t. room < position + packing.total_of op t) ready
    (λ t is. subst (λ n. room < position + n) (all ∙ unpack_total op len t session is) short)

pub pack_done : (s : Space) (op : Operation) (buffer old new : List ℕ) (position end bytes : ℕ) (session : Session) → IsReady s op (λ t. IsPacking op (length buffer) t session)
    → bytes ≡ total_of session → end ≡ position + bytes → end ≤ length old → new ≡ take position old ++ packed session.rep (placed session) buffer ++ drop end old
    → IsReady s op (λ t. IsPacked op t buffer old new position end)
pack_done s op buffer old new position end bytes session ready all ends fits put =
    ready_so s op (λ t. IsPacking op (length buffer) t session) (λ t. IsPacked op t buffer old new position end) ready
    (λ t is. record {
      end_is = ends ∙ ap (λ n. position + n) (all ∙ pack_total op (length buffer) t session is);
      fits = omega (arith, fits);
      put =
          put
          ∙ ap (λ bs. take position old ++ bs ++ drop end old)
          (ap (λ es. packed session.rep es buffer) is.2 ∙ ap (λ (s : Session). packed s.rep (elements_of op t) buffer) is.0);
    })

pub unpack_done : (s : Space) (op : Operation) (bytes old new : List ℕ) (position end n : ℕ) (session : unpack.Session) → IsReady s op (λ t. IsUnpacking op (length old) t session)
    → n ≡ unpack.total_of session → end ≡ position + n → end ≤ length bytes → new ≡ unpack.buffer_after session old (take n (drop position bytes))
    → IsReady s op (λ t. IsUnpacked op t bytes old new position end)
unpack_done s op bytes old new position end n session ready all ends fits set =
    ready_so s op (λ t. IsUnpacking op (length old) t session) (λ t. IsUnpacked op t bytes old new position end) ready
    (λ t is. record {
      end_is = ends ∙ ap (λ k. position + k) (all ∙ unpack_total op (length old) t session is);
      fits = omega (arith, fits);
      set =
          set ∙ ap (λ k. unpack.buffer_after session old (take k (drop position bytes))) (all ∙ unpack_total op (length old) t session is)
          ∙ ap (λ (u : unpack.Session). unpack.buffer_after u old (take (packing.total_of op t) (drop position bytes))) is.0;
    })
