use Rattle.dt_type.proofs.Answers.{again}
use Rattle.dt_ctor.proofs.Places.{placed_again}
use Rattle.dt_ctor.proofs.uneven.hindexed.Goals as goal

pub built-requires-clause-places : goal.built-requires-clause-places
built-requires-clause-places c =
    let old = c.in_ok-share.ensures in
    let blocks = c.in_ok-from_slice.ensures in
    placed_again _ _ _ c.in_ok-shape.ensures (cc)

pub returns : goal.returns
returns c =
    let old = c.in_ok-share.ensures in
    let blocks = c.in_ok-from_slice.ensures in
    again _ _ _ c.built.ensures (cc)
