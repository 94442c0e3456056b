use Rattle.std.proofs.Common.{rules, subst, ap, ◌∙◌}
use Rattle.std.proofs.lemmas.Int.{to_z-of_z}
use mir.Val.{to_z, of_z}
use Rattle.std.specs.Int.{w32, w64}
use Rattle.dt_space.specs.Sessions.{IsOpenPackAnswer}
use Rattle.dt_c.proofs.Calling.{calls_some}
use Rattle.dt_c.specs.Answer.{operation}
use Rattle.dt_c.proofs.sessions.dt_c_pack_open.Goals as goal

pub returns : goal.returns
returns c =
    let same =
    c.operation-op.ensures ∙ ap (λ n. operation c.args.datatype n (to_z w64 (of_z w64 c.args.origin)) c.args.external32) (to_z-of_z w32 c.args.count c.ranges.count)
    ∙ ap (λ x. operation c.args.datatype c.args.count x c.args.external32) (to_z-of_z w64 c.args.origin c.ranges.origin) in
    let v = c.open_pack-answer in
    calls_some _ _ _ _ _ c.deref_mut.result.now v.new.self v.result (search rules) (search rules) (search rules)
    (subst (λ op. IsOpenPackAnswer c.deref_mut.result.now v.new.self op c.args.bufsize v.result) same v.ensures, c.put.ensures.value)
