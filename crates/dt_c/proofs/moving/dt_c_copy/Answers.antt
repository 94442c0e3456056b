use Rattle.std.proofs.Common.{rules, refl, subst, ap, ◌∙◌}
use Rattle.std.specs.Prelude.{◌≡◌, ℤ, false}
use Rattle.std.proofs.lemmas.Int.{to_z-of_z}
use mir.Val.{to_z, of_z}
use Rattle.std.specs.Int.{w32, w64}
use Rattle.dt_numbered.specs.Copying.{IsCopyAnswer}
use Rattle.dt_c.proofs.Calling.{calls_some}
use Rattle.dt_c.specs.Answer.{operation}
use Rattle.dt_c.proofs.moving.dt_c_copy.Goals as goal

pub returns : goal.returns
returns c =
    let a = c.args in
    let from =
    c.operation-from.ensures ∙ ap (λ n. operation a.intype n (to_z w64 (of_z w64 a.inorigin)) false) (to_z-of_z w32 a.incount c.ranges.incount)
    ∙ ap (λ x. operation a.intype a.incount x false) (to_z-of_z w64 a.inorigin c.ranges.inorigin) in
    let onto =
    c.operation-onto.ensures ∙ ap (λ n. operation a.outtype n (to_z w64 (of_z w64 a.outorigin)) false) (to_z-of_z w32 a.outcount c.ranges.outcount)
    ∙ ap (λ x. operation a.outtype a.outcount x false) (to_z-of_z w64 a.outorigin c.ranges.outorigin) in
    let s = c.deref.result.now in
    let v = c.copy-answer in
    calls_some _ _ _ _ _ s s v.result (search rules) (search rules) (search rules) (
      refl,
      subst (λ op. IsCopyAnswer s op a.inbuf.now (operation a.outtype a.outcount a.outorigin false) a.outbuf.now v.new.target v.result) from
          (subst (λ op. IsCopyAnswer s c.operation-from.result a.inbuf.now op a.outbuf.now v.new.target v.result) onto v.ensures),
      c.put.ensures.value,
    )
