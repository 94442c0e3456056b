use Rattle.std.proofs.Common.{◌≡◌, ◌∙◌, sym, ap, subst, take, get_or, pos}
use Rattle.dt_offsets.specs.declared.turns.Spot.{Spot}
use Rattle.dt_offsets.specs.declared.reach.Reach.{Reach}
use Rattle.dt_offsets.specs.Near.{IsSpot, IsNearSpan}
use Rattle.dt_offsets.specs.Reach.{beside, reach}
use Rattle.dt_offsets.specs.Offsets.{spot_offsets, row_offsets}
use Rattle.dt_offsets.proofs.NearNumbers.{all_at, joined_near}
use Rattle.dt_offsets.proofs.Products.{factor_back}
use Rattle.dt_offsets.proofs.Reaches.{spots-step}
use Rattle.dt_offsets.proofs.reach.spots_reach.Goals as goal

abbrev no_spot : Spot
no_spot = record { first = pos 0; copies = 0; step = pos 0 }

pub loop-spot-preserved : goal.loop-spot-preserved
loop-spot-preserved c =
    let s = get_or c.args.spots.now c.loop-spot.spot-index no_spot in
    let spot = all_at IsSpot c.args.spots.now c.loop-spot.spot-index no_spot c.requires c.loop-spot-test.true in
    let first = factor_back s.first spot.first in
    let jump = factor_back s.step spot.step in
    let value = c.row_reach.ensures.value in
    let row : c.row_reach.result ≡ reach (row_offsets s.first s.copies s.step) = cc in
    let before = reach (spot_offsets (take c.loop-spot.spot-index c.args.spots.now)) in
    let step = spots-step c.args.spots.now c.loop-spot.spot-index no_spot c.loop-spot-test.true in (
      c.beside-reach.ensures ∙ ap (λ r. beside r c.row_reach.result) c.loop-spot.invariant.0 ∙ ap (beside before) row ∙ sym step,
      subst IsNearSpan (sym (ap (λ (r : Reach). r.span) c.beside-reach.ensures))
          (joined_near c.loop-spot.reach.span c.row_reach.result.span c.loop-spot.invariant.1 c.row_reach.ensures.near),
    )
