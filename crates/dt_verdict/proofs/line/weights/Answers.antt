use Rattle.std.proofs.Common.{arith}
use Rattle.std.proofs.lemmas.Int.{clamps}
use Rattle.dt_verdict.proofs.Naturals.{natural_bound}
use Rattle.dt_verdict.proofs.line.weights.Goals as goal

pub returns-in-None : goal.returns-in-None
returns-in-None c =
    let leaf = natural_bound 1000000 c.in_ok-leaf.leaf _ _ c.in_ok-leaf.ensures in
    let vector = natural_bound 1000000 c.in_ok-vector.vector _ _ c.in_ok-vector.ensures in
    let index = natural_bound 1000000 c.in_ok-index.index _ _ c.in_ok-index.ensures in
    let place = natural_bound 1000000 c.in_ok-place.place _ _ c.in_ok-place.ensures in
    let group = natural_bound 1000000 c.in_ok-group.group _ _ c.in_ok-group.ensures in
    let part = natural_bound 1000000 c.in_ok-part.part _ _ c.in_ok-part.ensures in
    absurd (c.in-None.ensures (omega (arith, clamps, leaf, vector, index, place, group, part)))
