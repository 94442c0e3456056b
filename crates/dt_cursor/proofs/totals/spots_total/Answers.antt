use Rattle.std.proofs.Common.{◌*◌, ◌<◌, Some, length, get_or, arith, ap, ◌∙◌, sym}
use Rattle.std.proofs.lemmas.Option.{slice_get-get_or}
use Rattle.dt_cursor.proofs.SpotCopies.{no_spot, spot_read, spot_got}
use Rattle.dt_cursor.proofs.Sums.{spots_end, spots_from, add_times}
use Rattle.dt_cursor.proofs.totals.spots_total.Goals as goal

pub spot_of-spot-requires : goal.spot_of-spot-requires
spot_of-spot-requires c =
    let r = c.requires.spots in
    let less = c.spots-test.true in
    let long = r.2 in
    (get_or r.0 c.spots.i no_spot, spot_read c.args.program.now c.args.first r.0 r.1 c.spots.i (omega (arith, less, long)))

pub overflow_mul-bytes : goal.overflow_mul-bytes
overflow_mul-bytes c =
    let r = c.requires.spots in
    let less = c.spots-test.true in
    let within : c.spots.i < length r.0 = (let long = r.2 in omega (arith, less, long)) in
    let got = slice_get-get_or r.0 c.spots.i no_spot within ∙ ap Some (sym (spot_got c.args.program.now c.args.first r.0 r.1 c.spots.i within c.spot_of-spot.result c.spot_of-spot.ensures.value)) in
    let more = add_times _ _ _ c.args.each (spots_from r.0 c.spots.i c.spot_of-spot.result got) in
    let so_far = c.spots.invariant.bytes r.0 r.1 r.2 in
    let most = r.3 in
    let copies = ap (λ n. n * c.args.each) c.from.ensures in
    omega (arith, more, so_far, most, copies)

pub overflow_add-bytes : goal.overflow_add-bytes
overflow_add-bytes c =
    let r = c.requires.spots in
    let less = c.spots-test.true in
    let within : c.spots.i < length r.0 = (let long = r.2 in omega (arith, less, long)) in
    let got = slice_get-get_or r.0 c.spots.i no_spot within ∙ ap Some (sym (spot_got c.args.program.now c.args.first r.0 r.1 c.spots.i within c.spot_of-spot.result c.spot_of-spot.ensures.value)) in
    let more = add_times _ _ _ c.args.each (spots_from r.0 c.spots.i c.spot_of-spot.result got) in
    let so_far = c.spots.invariant.bytes r.0 r.1 r.2 in
    let most = r.3 in
    let copies = ap (λ n. n * c.args.each) c.from.ensures in
    omega (arith, more, so_far, most, copies)

pub spots-preserved : goal.spots-preserved
spots-preserved c = record {
  few = let less = c.spots-test.true in omega (arith, less);
  bytes = λ all are long.
      let less = c.spots-test.true in
      let within : c.spots.i < length all = omega (arith, less, long) in
      let got = slice_get-get_or all c.spots.i no_spot within ∙ ap Some (sym (spot_got c.args.program.now c.args.first all are c.spots.i within c.spot_of-spot.result c.spot_of-spot.ensures.value)) in
      let more = add_times _ _ _ c.args.each (spots_from all c.spots.i c.spot_of-spot.result got) in
      let so_far = c.spots.invariant.bytes all are long in
      let copies = ap (λ n. n * c.args.each) c.from.ensures in
      omega (arith, more, so_far, copies);
}

pub returns : goal.returns
returns c all are long =
    let past = c.spots-test.false in
    let none = ap (λ n. n * c.args.each) (spots_end all c.spots.i (omega (arith, past, long))) in
    let so_far = c.spots.invariant.bytes all are long in
    omega (arith, none, so_far)
