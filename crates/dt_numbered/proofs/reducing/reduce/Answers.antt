use Rattle.std.proofs.Common.{rules, length, refl, subst, inr}
use Rattle.std.specs.Option.{IsSomeAnd}
use Rattle.dt_numbered.specs.Reducing.{IsUnreduced}
use Rattle.dt_numbered.proofs.Reductions.{reduction_refused}
use Rattle.dt_numbered.proofs.reducing.reduce.Goals as goal

pub returns : goal.returns
returns c =
    let a = c.args in
    let s = a.space.now in
    let fault = c.in-Err-planned_of.fault in (
      refl,
      inr
          (subst (λ o. IsSomeAnd o (λ joining. IsUnreduced s a.operands a.source_origin (length a.source.now) (length a.target.now) fault)) c.in-Some.ensures
          (reduction_refused s a.operands c.in-Ok.ty a.source_origin _ (length a.source.now) (length a.target.now) fault (search rules) c.in-Ok.ensures c.in-Err-planned_of.ensures)),
    )
