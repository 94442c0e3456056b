use Rattle.std.proofs.Common.{rules, sym}
use Rattle.std.proofs.lemmas.Int.{to_z-of_z}
use Rattle.std.specs.Int.{w32}
use Rattle.dt_c.proofs.Calling.{calls_some}
use Rattle.dt_c.proofs.lists.dt_c_type_create_darray.Goals as goal

pub returns : goal.returns
returns c =
    calls_some _ _ _ _ _ c.deref_mut.result.now c.darray-answer.new.space c.darray-answer.result (search rules) (search rules) (search rules)
    (rw (sym (to_z-of_z w32 c.args.size c.ranges.size), sym (to_z-of_z w32 c.args.rank c.ranges.rank)) c.darray-answer.ensures, c.put.ensures.value)
