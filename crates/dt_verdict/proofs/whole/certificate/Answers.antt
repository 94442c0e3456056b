use Rattle.dt_verdict.proofs.LineGoods.{map_bounds}
use Rattle.dt_verdict.proofs.whole.certificate.Goals as goal

pub of-requires : goal.of-requires
of-requires c = (map_bounds c.in_ok-map.map.entries _ _ c.in_ok-map.ensures).1
