use Rattle.dt_verdict.proofs.LineGoods.{entries_fit}
use Rattle.dt_verdict.proofs.whole.map.Goals as goal

pub returns-in-Err : goal.returns-in-Err
returns-in-Err c =
    let never = c.in-Err.ensures.in_range.1 (entries_fit c.in_ok-number.number c.in_ok-entries.entries.items _ _ c.in_ok-entries.ensures, tt) in
    cc never
