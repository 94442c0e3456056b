use Rattle.std.proofs.Common.{rules}
use Rattle.dt_numbered.proofs.Between.{copy_at}
use Rattle.dt_numbered.proofs.copying.planned_of.Goals as goal

pub returns : goal.returns
returns c =
    let a = c.args in
    copy_at c.planned.result a.from a.onto a.source.now a.target.now a.source_len a.target_len c.unsigned_abs.result c.unsigned_abs-2.result _ _ (search rules) (search rules) (search rules) (search rules)
    c.planned.ensures
