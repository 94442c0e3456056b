use Rattle.std.proofs.Common.{rules, sym}
use Rattle.std.proofs.lemmas.Int.{to_z-of_z}
use Rattle.std.specs.Int.{w64}
use Rattle.dt_c.proofs.Calling.{calls_some}
use Rattle.dt_c.proofs.types.dt_c_type_create_resized.Goals as goal

pub returns : goal.returns
returns c =
    calls_some _ _ _ _ _ c.deref_mut.result.now c.resized-answer.new.self c.resized-answer.result (search rules) (search rules) (search rules)
    (rw (sym (to_z-of_z w64 c.args.lb c.ranges.lb), sym (to_z-of_z w64 c.args.extent c.ranges.extent)) c.resized-answer.ensures, c.put.ensures.value)
