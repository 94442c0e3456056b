use Rattle.std.proofs.Common.{pos, ◌+◌, take, get_or}
use Rattle.dt_offsets.specs.declared.turns.Spot.{Spot}
use Rattle.dt_offsets.specs.Near.{IsSpot}
use Rattle.dt_type.specs.Listing.{entries_at}
use Rattle.dt_offsets.specs.Offsets.{row_offsets, spot_offsets}
use Rattle.dt_type.proofs.Listings.{after, spot_more, spot_fits}
use Rattle.dt_offsets.proofs.NearNumbers.{all_at}
use Rattle.dt_offsets.proofs.Products.{factor_back}
use Rattle.dt_type.proofs.flatten.push_spots.Goals as goal

abbrev no_spot : Spot
no_spot = record { first = pos 0; copies = 0; step = pos 0 }

pub push_row-requires-clause-fit : goal.push_row-requires-clause-fit
push_row-requires-clause-fit c =
    let s = get_or c.args.spots.now c.spots.spot-index no_spot in
    let spot = all_at IsSpot c.args.spots.now c.spots.spot-index no_spot c.requires.spots c.spots-test.true in
    simp (factor_back s.first spot.first, factor_back s.step spot.step) (spot_fits c.args.spots.now c.args.one.now c.spots.spot-index no_spot c.spots-test.true c.requires.fit)

pub spots-preserved : goal.spots-preserved
spots-preserved c =
    let s = get_or c.args.spots.now c.spots.spot-index no_spot in
    let spot = all_at IsSpot c.args.spots.now c.spots.spot-index no_spot c.requires.spots c.spots-test.true in
    let one = c.args.one.now in
    after c.args.out.now.items c.spots.out.items c.push_row.new.out.items (entries_at (spot_offsets (take c.spots.spot-index c.args.spots.now)) one)
    (entries_at (row_offsets s.first s.copies s.step) one)
    (entries_at (spot_offsets (take (c.spots.spot-index + 1) c.args.spots.now)) one)
    c.spots.invariant
    (simp (factor_back s.first spot.first, factor_back s.step spot.step) at c.in_ok-push_row.ensures)
    (spot_more c.args.spots.now one c.spots.spot-index no_spot c.spots-test.true)
