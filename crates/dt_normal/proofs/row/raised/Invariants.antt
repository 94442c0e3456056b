use Rattle.std.proofs.Common.{◌≡◌, ◌+◌, map, take}
use Rattle.dt_normal.proofs.row.raised.Given as goal

abbrev pub invariant-costs : goal.invariant-costs
invariant-costs l = l.raised.items ≡ map (λ cost. l.price + cost) (take l.cost-index l.costs)
