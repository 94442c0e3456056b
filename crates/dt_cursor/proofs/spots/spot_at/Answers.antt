use Rattle.std.proofs.Common.{◌+◌, ◌<◌, Some, arith, ap, subst, sym, ◌∙◌, slice_get, length}
use Rattle.dt_cursor.proofs.SpotCopies.{place_within, spot_is, copy_is, spot_passed}
use Rattle.dt_cursor.proofs.spots.spot_at.Goals as goal

pub at-requires : goal.at-requires
at-requires g c =
    let r = c.requires.spots in
    let within : c.spots.i < length r.0 = let long = r.2 in let less = c.spots-test.true in omega (arith, long, less) in
    subst (λ code. c.args.first + c.spots.i < length code) (sym c.spots.invariant.same) (place_within (g.C.Code.program c.args.code.now) c.args.first r.0 r.1 c.spots.i within)

pub unreachable-requires : goal.unreachable-requires
unreachable-requires g c =
    let r = c.requires.spots in
    let within : c.spots.i < length r.0 = let long = r.2 in let less = c.spots-test.true in omega (arith, long, less) in
    let got = ap (λ code. slice_get code (c.args.first + c.spots.i)) (sym c.spots.invariant.same) ∙ c.at.ensures.value in
    c.in_default.not-Spot _ (spot_is (g.C.Code.program c.args.code.now) c.args.first r.0 r.1 c.spots.i within c.at.result got)

pub returns-then-left-copies-clause-some : goal.returns-then-left-copies-clause-some
returns-then-left-copies-clause-some g c all are long =
    let within : c.spots.i < length all = let less = c.spots-test.true in omega (arith, long, less) in
    let got = ap (λ code. slice_get code (c.args.first + c.spots.i)) (sym c.spots.invariant.same) ∙ c.at.ensures.value ∙ ap Some c.in-Spot.is in
    let less = c.if-left-copies.true in
    let same = c.from-copies.ensures in
    copy_is (g.C.Code.program c.args.code.now) c.args.first all are c.spots.i within c.args.number c.spots.left c.in-Spot.spot got (c.spots.invariant.number all are long) (omega (arith, less, same))

pub spots-preserved : goal.spots-preserved
spots-preserved g c = record {
  number = λ all are long.
      let within : c.spots.i < length all = let less = c.spots-test.true in omega (arith, long, less) in
      let got = ap (λ code. slice_get code (c.args.first + c.spots.i)) (sym c.spots.invariant.same) ∙ c.at.ensures.value ∙ ap Some c.in-Spot.is in
      let more = c.if-left-copies.false in
      let same = c.from-copies.ensures in
      let passed = spot_passed (g.C.Code.program c.args.code.now) c.args.first all are c.spots.i within c.args.number c.spots.left c.in-Spot.spot got (c.spots.invariant.number all are long) (omega (arith, more, same)) in
      omega (arith, passed, same);
  same = c.at.ensures.same ∙ c.spots.invariant.same;
  reads = let one = c.at.ensures.reads in let before = c.spots.invariant.reads in omega (arith, one, before);
  few = let less = c.spots-test.true in omega (arith, less);
}
