use mir.Syntax.{w128}
use mir.Val.{to_z, of_z}
use Rattle.std.proofs.Common.{◌≡◌, ℤ, List, get_or, pos, refl, rules}
use Rattle.std.proofs.lemmas.Int.{to_z-of_z}
use Rattle.dt_offsets.specs.declared.turns.Spot.{Spot}
use Rattle.dt_offsets.specs.Near.{IsSpot}
use Rattle.dt_offsets.specs.Offsets.{row_offsets}
use Rattle.dt_offsets.proofs.NearNumbers.{all_at}
use Rattle.dt_offsets.proofs.Products.{factor_back}
use Rattle.dt_elems.specs.Apart.{Follow}
use Rattle.dt_elems.proofs.Rising.{spread_more}
use Rattle.dt_elems.proofs.apart.spots_are_spread.Goals as goal

abbrev none : Spot
none = record { first = pos 0; copies = 0; step = pos 0 }

abbrev row : Spot → List ℤ
row s = row_offsets s.first s.copies s.step

pub spots-preserved : goal.spots-preserved
spots-preserved c =
    let spots = c.args.spots.now in
    let i = c.spots.spot-index in
    let s : Spot = get_or spots i none in
    let numbers = all_at IsSpot spots i none c.requires.spots c.spots-test.true in
    let first = factor_back s.first numbers.first in
    let step = factor_back s.step numbers.step in
    let room = to_z-of_z w128 c.args.room c.ranges.room in
    let end : to_z w128 (of_z w128 c.in-Some.end) ≡ c.in-Some.end = search rules in
    let before = simp (room, c.spots.next-is) at c.spots.invariant in
    let follow : Follow c.args.room c.spots.next (row s) c.in-Some.end = simp (room, first, step, c.spots.next-is) at c.in-Some.ensures in
    simp (room, end) (spread_more row spots i s none c.spots-test.true refl c.args.room c.spots.next c.in-Some.end before.0 before.1 follow)
