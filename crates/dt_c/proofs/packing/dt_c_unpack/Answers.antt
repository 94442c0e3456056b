use Rattle.std.proofs.Common.{rules, refl, subst, ap, ◌∙◌}
use Rattle.std.proofs.lemmas.Int.{to_z-of_z}
use mir.Val.{to_z, of_z}
use Rattle.std.specs.Int.{w32, w64}
use Rattle.dt_space.specs.Packing.{IsUnpackAnswer}
use Rattle.dt_c.proofs.Calling.{calls_some}
use Rattle.dt_c.specs.Answer.{operation}
use Rattle.dt_c.proofs.packing.dt_c_unpack.Goals as goal

pub returns : goal.returns
returns c =
    let same =
    c.operation-op.ensures ∙ ap (λ n. operation c.args.datatype n (to_z w64 (of_z w64 c.args.origin)) c.args.external32) (to_z-of_z w32 c.args.outcount c.ranges.outcount)
    ∙ ap (λ x. operation c.args.datatype c.args.outcount x c.args.external32) (to_z-of_z w64 c.args.origin c.ranges.origin) in
    calls_some _ _ _ _ _ c.deref.result.now c.deref.result.now c.unpack-answer.result (search rules) (search rules) (search rules)
    (refl, subst (λ op. IsUnpackAnswer c.deref.result.now op c.args.inbuf.now c.args.outbuf.now c.unpack-answer.new.outbuf c.args.position.now c.unpack-answer.result) same (c.unpack-answer.ensures.answer, c.unpack-answer.ensures.unchanged), c.put.ensures.value)
