use Rattle.dt_base.proofs.Passing.{TakesFront-more}
use Rattle.dt_base.proofs.source.read_all.Goals as goal

pub returns-then-count-limit-clause-front : goal.returns-then-count-limit-clause-front
returns-then-count-limit-clause-front g c =
    TakesFront-more _ _ _ _ _ _ _ c.turns.bytes.items _ c.turns.invariant.consumed c.turns.invariant.count c.in-Ok.ensures.bound.0 c.in-Ok.ensures.bytes.0 c.in-Ok.ensures.count

pub returns-in_default-extend_from_slice-clause-front : goal.returns-in_default-extend_from_slice-clause-front
returns-in_default-extend_from_slice-clause-front g c =
    TakesFront-more _ _ _ _ _ _ _ c.turns.bytes.items _ c.turns.invariant.consumed c.turns.invariant.count c.in-Ok.ensures.bound.0 c.in-Ok.ensures.bytes.0 c.in-Ok.ensures.count
