use mir.Syntax.{w128}
use mir.Val.{to_z, of_z}
use Rattle.std.specs.Prelude.{Some, slice_get}
use Rattle.std.proofs.Common.{◌≡◌, ◌∙◌, sym, refl, ap, arith, ◌+ℤ◌, ◌*ℤ◌, pos, ◌-◌, length, get_or, drop, ◌+◌}
use Rattle.dt_offsets.specs.declared.turns.Spot.{Spot}
use Rattle.dt_offsets.specs.Near.{IsSpot}
use Rattle.dt_offsets.specs.Offsets.{row_offsets, spot_offsets}
use Rattle.dt_offsets.proofs.GridAt.{row_at}
use Rattle.dt_offsets.proofs.Lookups.{piece_here, piece_later, none_left}
use Rattle.dt_offsets.proofs.NearNumbers.{all_at}
use Rattle.dt_offsets.proofs.Products.{same128, factor_back}
use Rattle.dt_offsets.proofs.Reaches.{count-row}
use Rattle.dt_offsets.proofs.place.spots_at.Goals as goal

abbrev no_spot : Spot
no_spot = record { first = pos 0; copies = 0; step = pos 0 }

pub returns-then-left-copies : goal.returns-then-left-copies
returns-then-left-copies c =
    let s = get_or c.args.spots.now c.loop-spot.spot-index no_spot in
    let spot = all_at IsSpot c.args.spots.now c.loop-spot.spot-index no_spot c.requires.spots c.loop-spot-test.true in
    let first = factor_back s.first spot.first in
    let step = factor_back s.step spot.step in
    let back = same128 c.along.result c.along.type_inv in
    let at : s.first +ℤ (pos c.loop-spot.left *ℤ s.step) ≡ to_z w128 (of_z w128 c.along.result) = cc in
    let long = count-row s.first s.step s.copies in
    sym c.loop-spot.invariant
    ∙ piece_here (λ (x : Spot). row_offsets x.first x.copies x.step) c.args.spots.now c.loop-spot.spot-index s no_spot c.loop-spot-test.true refl c.loop-spot.left (omega arith)
    ∙ row_at s.first s.step s.copies c.loop-spot.left (omega arith)
    ∙ ap Some at

pub loop-spot-preserved : goal.loop-spot-preserved
loop-spot-preserved c =
    let s = get_or c.args.spots.now c.loop-spot.spot-index no_spot in
    let long = count-row s.first s.step s.copies in
    let same : c.loop-spot.left - c.from-copies.result ≡ c.loop-spot.left - length (row_offsets s.first s.copies s.step) = omega arith in
    ap (slice_get (spot_offsets (drop (c.loop-spot.spot-index + 1) c.args.spots.now))) same
    ∙ sym (piece_later (λ (x : Spot). row_offsets x.first x.copies x.step) c.args.spots.now c.loop-spot.spot-index s no_spot c.loop-spot-test.true refl c.loop-spot.left (omega arith))
    ∙ c.loop-spot.invariant

pub unreachable-requires : goal.unreachable-requires
unreachable-requires c =
    none_left (λ (x : Spot). row_offsets x.first x.copies x.step) c.args.spots.now c.loop-spot.spot-index c.loop-spot.left (spot_offsets c.args.spots.now) c.args.copy
    c.loop-spot-test.false c.loop-spot.invariant c.requires.within
