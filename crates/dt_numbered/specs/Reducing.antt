-- Elements of one buffer reduced by those of another (MPI 4.1, section 6.9.7).
use Rattle.std.specs.Prelude.{◌≡◌, ℕ, ◌<◌, ◌⊎◌, ℤ, None, List, [], ◌∷◌, length, slice_get, Result, MatchResult}
use Rattle.std.specs.Option.{IsSomeAnd}
use Rattle.dt_kinds.specs.declared.kind.Kind.{Kind}
use Rattle.dt_ops.specs.Joins.{sum_of, prod_of, min_of, max_of, and_of, or_of, xor_of, first_of, last_of}
use Rattle.dt_reduce.specs.declared.fault.ReduceFault.TheVariants as why
use Rattle.dt_reduce.specs.Plan.{Reduction, reduction_of, CanReduce, IsRefused}
use Rattle.dt_reduce.specs.Reduced.{reduced}
use Rattle.dt_type.specs.Datatype.{typemap_of}
use Rattle.dt_type.specs.declared.datatype.Seen.{Seen}
use Rattle.dt_space.specs.declared.fault.SpaceFault.{SpaceFault}
use Rattle.dt_space.specs.declared.fault.SpaceFault.TheVariants.{BadArgument, Outside, Overlap, TooLarge, NoMemory}
use Rattle.dt_space.specs.declared.number.Operation.{Operation}
use Rattle.dt_space.specs.Packing.{IsReady, IsUnready, count_of}
use Rattle.dt_space.specs.Space.{Space}
use Rattle.dt_numbered.specs.Copying.{AreSmall}
use Rattle.dt_numbered.specs.declared.ops.Op.{Op}
use Rattle.dt_numbered.specs.declared.ops.Op.TheVariants.{Sum, Prod, Min, Max, And, Or, Xor, First, Last}

-- all operations, in the order of their numbers
abbrev pub ops : List Op
ops = Sum ∷ Prod ∷ Min ∷ Max ∷ And ∷ Or ∷ Xor ∷ First ∷ Last ∷ []

-- what each joins two words of a kind to
abbrev pub join_of : Op → Kind → ℕ → ℕ → ℕ
join_of Sum = sum_of
join_of Prod = prod_of
join_of Min = min_of
join_of Max = max_of
join_of And = and_of
join_of Or = or_of
join_of Xor = xor_of
join_of First = first_of
join_of Last = last_of

-- the reduction of an operation's elements, over a datatype, which begin at another origin in the source
abbrev pub reduction_for : Operation → Seen → ℤ → ℕ → ℕ → Reduction
reduction_for op t source_origin source_len target_len =
    reduction_of (typemap_of t) (count_of op) source_origin source_len op.origin target_len

-- why it can't be made: a buffer is too large, or else as its plan is refused
abbrev pub IsHindered : Reduction → SpaceFault → Type 0
IsHindered r TooLarge = (16777216 < r.source_len) ⊎ (16777216 < r.target_len)
IsHindered r Outside = AreSmall r.source_len r.target_len × IsRefused r why.Outside
IsHindered r Overlap = AreSmall r.source_len r.target_len × IsRefused r why.Overlap
IsHindered r NoMemory = Unit {0}
IsHindered r fault = ⊥

-- so many elements are reduced, which are all of them
pub record IsReduced (op : Op) (r : Reduction) (source target target' : List ℕ) (elements : ℕ) : Type 0 where
  pub small : AreSmall r.source_len r.target_len
  pub can : CanReduce r
  pub many : elements ≡ length r.target
  pub put : target' ≡ reduced (join_of op) r.source r.target source target

-- why nothing is reduced by an operation
abbrev pub IsUnreduced : Space → Operation → ℤ → ℕ → ℕ → SpaceFault → Type 0
IsUnreduced s op source_origin source_len target_len fault =
    IsUnready s op fault ⊎ IsReady s op (λ t. IsHindered (reduction_for op t source_origin source_len target_len) fault)

-- why nothing is: the number is that of no operation, or as the operation is refused
abbrev pub IsNotReduced : Space → ℕ → Operation → ℤ → ℕ → ℕ → SpaceFault → Type 0
IsNotReduced s number op source_origin source_len target_len fault =
    ((slice_get ops number ≡ None) × (fault ≡ BadArgument))
    ⊎ IsSomeAnd (slice_get ops number) (λ joining. IsUnreduced s op source_origin source_len target_len fault)

-- the answer; a refusal leaves the target as it was
abbrev pub IsReduceAnswer : Space → ℕ → Operation → List ℕ → ℤ → List ℕ → List ℕ → Result ℕ SpaceFault → Type 0
IsReduceAnswer s number op source source_origin target target' answer =
    MatchResult answer
    (λ elements. IsSomeAnd (slice_get ops number) (λ joining. IsReady s op (λ t.
    IsReduced joining (reduction_for op t source_origin (length source) (length target)) source target target' elements)))
    (λ fault. (target' ≡ target) × IsNotReduced s number op source_origin (length source) (length target) fault)
