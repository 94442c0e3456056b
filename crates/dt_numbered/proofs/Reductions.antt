-- Reductions of the elements of an operation that is ready.
use Rattle.std.specs.Prelude.{◌≡◌, ℕ, ℤ, Result, MatchResult}
use Rattle.std.proofs.Common.{sym, ap, subst, ◌∙◌, inr}
use Rattle.dt_reduce.specs.Plan.{Reduction, reduction_of, CanReduce}
use Rattle.dt_type.specs.Datatype.{typemap_of}
use Rattle.dt_type.specs.declared.datatype.Seen.{Seen}
use Rattle.dt_space.specs.declared.fault.SpaceFault.{SpaceFault}
use Rattle.dt_space.specs.declared.number.Operation.{Operation}
use Rattle.dt_space.specs.Packing.{IsReady, count_of}
use Rattle.dt_space.specs.Space.{Space}
use Rattle.dt_space.proofs.Packings.{ready_so}
use Rattle.dt_numbered.specs.Copying.{AreSmall}
use Rattle.dt_numbered.specs.Reducing.{IsHindered, IsUnreduced, reduction_for}

-- the same reduction, where the count and the origins are these numbers
pub reduction_at : (r : Result Reduction SpaceFault) (op : Operation) (t : Seen) (len len' n : ℕ) (from x y : ℤ) → n ≡ count_of op → x ≡ from → y ≡ op.origin
    → MatchResult r (λ plan. (plan ≡ reduction_of (typemap_of t) n x len y len') × AreSmall len len' × CanReduce plan) (IsHindered (reduction_of (typemap_of t) n x len y len'))
    → MatchResult r (λ plan. (plan ≡ reduction_for op t from len len') × AreSmall len len' × CanReduce plan) (IsHindered (reduction_for op t from len len'))
reduction_at r op t len len' n from x y count source target is =
    subst (λ d. MatchResult r (λ plan. (plan ≡ d) × AreSmall len len' × CanReduce plan) (IsHindered d))
    (ap (λ k. reduction_of (typemap_of t) k x len y len') count
    ∙ ap (λ z. reduction_of (typemap_of t) (count_of op) z len y len') source
    ∙ ap (λ z. reduction_of (typemap_of t) (count_of op) from len z len') target)
    is

-- an operation that is ready, over a datatype by which the reduction is refused
pub reduction_refused : (s : Space) (op : Operation) (a : Seen) (from x : ℤ) (len len' : ℕ) (fault : SpaceFault) → x ≡ from → IsReady s op (λ t. t ≡ a)
    → IsHindered (reduction_for op a x len len') fault → IsUnreduced s op from len len' fault
reduction_refused s op a from x len len' fault source ready is =
    inr
    (ready_so s op (λ t. t ≡ a) (λ t. IsHindered (reduction_for op t from len len') fault) ready
    (λ t same. subst (λ y. IsHindered (reduction_for op t y len len') fault) source (subst (λ u. IsHindered (reduction_for op u x len len') fault) (sym same) is)))
