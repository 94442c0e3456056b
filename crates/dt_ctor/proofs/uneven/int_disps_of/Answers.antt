use mir.Syntax.{w32}
use mir.Val.{to_z, of_z}
use Rattle.std.proofs.lemmas.Int.{to_z-of_z}
use Rattle.dt_ctor.proofs.Places.{placed_again}
use Rattle.dt_ctor.proofs.RowPlaces.{int_disps_finished}
use Rattle.dt_ctor.proofs.uneven.int_disps_of.Goals as goal

pub returns : goal.returns
returns c =
    let block = to_z-of_z w32 c.args.block c.ranges.block in
    let finished =
    int_disps_finished (to_z w32 (of_z w32 c.args.block)) c.args.disps.now c.args.old.now c.loop-disp.disp-index _ _ _ c.spots-2.view_is c.loop-disp.invariant c.loop-disp-test.false
    c.in_ok-share.ensures in
    placed_again _ _ _ finished (cc)
