-- Copies between two operations that are ready.
use Rattle.std.specs.Prelude.{◌≡◌, ℕ, ℤ, List, length, Result, MatchResult}
use Rattle.std.proofs.Common.{sym, ap, subst, ◌∙◌}
use Rattle.dt_copy.specs.Copied.{copied}
use Rattle.dt_copy.specs.Plan.{Copy, copy_of, CanCopy}
use Rattle.dt_type.specs.Datatype.{typemap_of}
use Rattle.dt_type.specs.declared.datatype.Seen.{Seen}
use Rattle.dt_space.specs.declared.fault.SpaceFault.{SpaceFault}
use Rattle.dt_space.specs.declared.number.Operation.{Operation}
use Rattle.dt_space.specs.Packing.{IsReady, count_of}
use Rattle.dt_space.specs.Space.{Space}
use Rattle.dt_space.proofs.Packings.{ready_so}
use Rattle.dt_numbered.specs.Copying.{AreReady, AreSmall, IsCopied, IsHindered, copy_between}

pub both_are : (s : Space) (from onto : Operation) (a b : Seen) → IsReady s from (λ u. u ≡ a) → IsReady s onto (λ u. u ≡ b) → AreReady s from onto (λ t u. (t ≡ a) × (u ≡ b))
both_are s from onto a b one two =
    ready_so s from (λ u. u ≡ a) (λ t. IsReady s onto (λ u. (t ≡ a) × (u ≡ b))) one
    (λ t is. ready_so s onto (λ u. u ≡ b) (λ u. (t ≡ a) × (u ≡ b)) two (λ u same. (is, same)))

both_so : (s : Space) (from onto : Operation) (Are So : Seen → Seen → Type 0) → AreReady s from onto Are → ((t u : Seen) → Are t u → So t u) → AreReady s from onto So
both_so s from onto Are So ready so =
    ready_so s from (λ t. IsReady s onto (λ u. Are t u)) (λ t. IsReady s onto (λ u. So t u)) ready (λ t is. ready_so s onto (λ u. Are t u) (λ u. So t u) is (λ u are. so t u are))

-- the same copy, where counts and origins are these numbers
pub copy_at : (r : Result Copy SpaceFault) (from onto : Operation) (t u : Seen) (len len' n n' : ℕ) (x x' : ℤ) → n ≡ count_of from → x ≡ from.origin → n' ≡ count_of onto → x' ≡ onto.origin
    → MatchResult r (λ plan. (plan ≡ copy_of (typemap_of t) n x len (typemap_of u) n' x' len') × AreSmall len len' × CanCopy plan) (IsHindered (copy_of (typemap_of t) n x len (typemap_of u) n' x' len'))
    → MatchResult r (λ plan. (plan ≡ copy_between from t len onto u len') × AreSmall len len' × CanCopy plan) (IsHindered (copy_between from t len onto u len'))
copy_at r from onto t u len len' n n' x x' count origin count' origin' is =
    subst (λ c. MatchResult r (λ plan. (plan ≡ c) × AreSmall len len' × CanCopy plan) (IsHindered c))
    (ap (λ k. copy_of (typemap_of t) k x len (typemap_of u) n' x' len') count
    ∙ ap (λ y. copy_of (typemap_of t) (count_of from) y len (typemap_of u) n' x' len') origin
    ∙ ap (λ k. copy_of (typemap_of t) (count_of from) from.origin len (typemap_of u) k x' len') count'
    ∙ ap (λ y. copy_of (typemap_of t) (count_of from) from.origin len (typemap_of u) (count_of onto) y len') origin')
    is

module _ (s : Space) (from onto : Operation) (a b : Seen) (len len' : ℕ) where
  same_copy : (t u : Seen) → (t ≡ a) × (u ≡ b) → copy_between from a len onto b len' ≡ copy_between from t len onto u len'
  same_copy t u same = ap (λ x. copy_between from x len onto b len') (sym same.0) ∙ ap (λ x. copy_between from t len onto x len') (sym same.1)

  pub copy_done : (plan : Copy) (source target target' : List ℕ) (n : ℕ) → AreReady s from onto (λ t u. (t ≡ a) × (u ≡ b)) → plan ≡ copy_between from a len onto b len' → AreSmall len len' → CanCopy plan
      → target' ≡ copied plan.source plan.target source target → n ≡ length plan.source → AreReady s from onto (λ t u. IsCopied (copy_between from t len onto u len') source target target' n)
  copy_done plan source target target' n ready is small can put many =
      let fits = subst (λ (c : Copy). AreSmall c.source_len c.target_len) (sym is) small in
      both_so s from onto (λ t u. (t ≡ a) × (u ≡ b)) (λ t u. IsCopied (copy_between from t len onto u len') source target target' n) ready
      (λ t u same. subst (λ c. IsCopied c source target target' n) (is ∙ same_copy t u same) (record { small = fits; can = can; many = many; put = put }))

  pub copy_refused : (fault : SpaceFault) → AreReady s from onto (λ t u. (t ≡ a) × (u ≡ b)) → IsHindered (copy_between from a len onto b len') fault
      → AreReady s from onto (λ t u. IsHindered (copy_between from t len onto u len') fault)
  copy_refused fault ready is =
      both_so s from onto (λ t u. (t ≡ a) × (u ≡ b)) (λ t u. IsHindered (copy_between from t len onto u len') fault) ready
      (λ t u same. subst (λ c. IsHindered c fault) (same_copy t u same) is)
