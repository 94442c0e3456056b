use Rattle.std.proofs.Common.{◌<◌, Some, length, get_or, refl, arith, ap, ◌∙◌, sym}
use Rattle.std.proofs.lemmas.Option.{slice_get-get_or}
use Rattle.dt_cursor.proofs.NextRounds.{spot_skipped}
use Rattle.dt_cursor.proofs.SpotCopies.{no_spot, spot_read, spot_got}
use Rattle.dt_cursor.proofs.onward.some_spot.Goals as goal

pub spot_of-spot-requires : goal.spot_of-spot-requires
spot_of-spot-requires c =
    let r = c.requires.spots in
    let less = c.spots-test.true in
    let long = r.2 in
    (get_or r.0 c.spots.i no_spot, spot_read c.args.program.now c.args.first r.0 r.1 c.spots.i (omega (arith, less, long)))

pub returns-then-spot-gt0-clause-some : goal.returns-then-spot-gt0-clause-some
returns-then-spot-gt0-clause-some c all are long =
    let less = c.spots-test.true in
    let within : c.spots.i < length all = omega (arith, less, long) in
    record {
      spot = slice_get-get_or all c.spots.i no_spot within ∙ ap Some (sym (spot_got c.args.program.now c.args.first all are c.spots.i within c.spot_of-spot.result c.spot_of-spot.ensures.value));
      some = c.if-spot-gt0.true;
      first = refl;
      skipped = c.spots.invariant.skipped all are long;
    }

pub spots-preserved : goal.spots-preserved
spots-preserved c = record {
  few = let less = c.spots-test.true in omega (arith, less);
  skipped = λ all are long.
      let less = c.spots-test.true in
      let within : c.spots.i < length all = omega (arith, less, long) in
      let got = slice_get-get_or all c.spots.i no_spot within ∙ ap Some (sym (spot_got c.args.program.now c.args.first all are c.spots.i within c.spot_of-spot.result c.spot_of-spot.ensures.value)) in
      let none = c.if-spot-gt0.false in
      spot_skipped all c.args.from c.spots.i c.spot_of-spot.result got (omega (arith, none)) (c.spots.invariant.skipped all are long);
}
