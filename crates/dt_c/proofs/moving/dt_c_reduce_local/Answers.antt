use Rattle.std.proofs.Common.{rules, refl, subst, ap, ◌∙◌}
use Rattle.std.specs.Prelude.{◌≡◌, ℤ, false}
use Rattle.std.proofs.lemmas.Int.{to_z-of_z}
use mir.Val.{to_z, of_z}
use Rattle.std.specs.Int.{w32, w64}
use Rattle.dt_numbered.specs.Reducing.{IsReduceAnswer}
use Rattle.dt_c.proofs.Calling.{calls_some}
use Rattle.dt_c.specs.Answer.{operation}
use Rattle.dt_c.proofs.moving.dt_c_reduce_local.Goals as goal

pub returns : goal.returns
returns c =
    let a = c.args in
    let operands =
    c.operation-operands.ensures ∙ ap (λ n. operation a.datatype n (to_z w64 (of_z w64 a.inoutorigin)) false) (to_z-of_z w32 a.count c.ranges.count)
    ∙ ap (λ x. operation a.datatype a.count x false) (to_z-of_z w64 a.inoutorigin c.ranges.inoutorigin) in
    let s = c.deref.result.now in
    let v = c.reduce-answer in
    let told = simp (to_z-of_z w64 a.inorigin c.ranges.inorigin) at v.ensures in
    calls_some _ _ _ _ _ s s v.result (search rules) (search rules) (search rules)
    (refl, subst (λ op. IsReduceAnswer s a.op op a.inbuf.now a.inorigin a.inoutbuf.now v.new.target v.result) operands told, c.put.ensures.value)
