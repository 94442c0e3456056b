use Rattle.std.proofs.Common.{rules, sym}
use Rattle.std.proofs.lemmas.Int.{to_z-of_z}
use Rattle.std.specs.Int.{w32}
use Rattle.dt_c.proofs.Calling.{calls_some}
use Rattle.dt_c.proofs.types.dt_c_type_vector.Goals as goal

pub returns : goal.returns
returns c =
    calls_some _ _ _ _ _ c.deref_mut.result.now c.vector-answer.new.self c.vector-answer.result (search rules) (search rules) (search rules)
    (rw (sym (to_z-of_z w32 c.args.count c.ranges.count), sym (to_z-of_z w32 c.args.blocklength c.ranges.blocklength), sym (to_z-of_z w32 c.args.stride c.ranges.stride)) c.vector-answer.ensures, c.put.ensures.value)
