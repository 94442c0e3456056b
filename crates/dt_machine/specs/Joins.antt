-- What the words of a script join.
use Rattle.std.specs.Prelude.{ℕ}
use Rattle.dt_kinds.specs.declared.kind.Kind.{Kind}
use Rattle.dt_ops.specs.Joins.{sum_of, prod_of, min_of, max_of, and_of, or_of, xor_of, first_of, last_of}
use Rattle.dt_script.specs.declared.command.Op.{Op}
use Rattle.dt_script.specs.declared.command.Op.TheVariants.{Sum, Prod, Min, Max, And, Or, Xor, First, Last}

-- two words of a kind are joined by the operation of this name
abbrev pub join_of : Op → Kind → ℕ → ℕ → ℕ
join_of Sum = sum_of
join_of Prod = prod_of
join_of Min = min_of
join_of Max = max_of
join_of And = and_of
join_of Or = or_of
join_of Xor = xor_of
join_of First = first_of
join_of Last = last_of
