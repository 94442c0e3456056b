use Rattle.std.proofs.Common.{rules}
use Rattle.dt_numbered.proofs.Reductions.{reduction_at}
use Rattle.dt_numbered.proofs.reducing.planned_of.Goals as goal

pub returns : goal.returns
returns c =
    let a = c.args in
    reduction_at c.planned.result a.operands a.ty.now a.source_len a.target_len c.unsigned_abs.result a.source_origin _ _ (search rules) (search rules) (search rules) c.planned.ensures
