use Rattle.std.proofs.Common.{◌≡◌, ◌+◌, ◌-◌, ◌*◌, ◌<◌, ◌≤◌, Some, arith, ap, subst, sym, ◌∙◌, slice_get, length}
use Rattle.dt_layout.specs.Body.{number_of}
use Rattle.dt_cursor.proofs.IntoParts.{IsRest, part_within, part_is_loop, rest_goes_on, part_holds, place_fits, parts_are_passed}
use Rattle.dt_cursor.proofs.parts.part_at.Goals as goal

pub at-requires : goal.at-requires
at-requires g c =
    let r = c.requires in
    let within : c.parts.i < number_of r.0 = let many = r.2 in let less = c.parts-test.true in omega (arith, many, less) in
    let rest = c.parts.invariant.rest r.0 r.1 r.2 in
    subst (λ code. c.parts.place < length code) (sym c.parts.invariant.same) (part_within (g.C.Code.program c.args.code.now) c.args.rep c.args.first r.0 c.args.byte c.parts.i c.parts.place c.parts.left rest within)

pub unreachable-requires : goal.unreachable-requires
unreachable-requires g c =
    let r = c.requires in
    let within : c.parts.i < number_of r.0 = let many = r.2 in let less = c.parts-test.true in omega (arith, many, less) in
    let rest = c.parts.invariant.rest r.0 r.1 r.2 in
    let got = ap (λ code. slice_get code c.parts.place) (sym c.parts.invariant.same) ∙ c.at.ensures.value in
    c.in_default.not-Loop _ _ _ (part_is_loop (g.C.Code.program c.args.code.now) c.args.rep c.args.first r.0 c.args.byte c.parts.i c.parts.place c.parts.left rest within c.at.result got)

pub returns-in-Some-clause-some : goal.returns-in-Some-clause-some
returns-in-Some-clause-some g c all stand many =
    let within : c.parts.i < number_of all = let less = c.parts-test.true in omega (arith, many, less) in
    let rest = c.parts.invariant.rest all stand many in
    let got = ap (λ code. slice_get code c.parts.place) (sym c.parts.invariant.same) ∙ c.at.ensures.value ∙ ap Some c.in-Loop.is in
    part_holds (g.C.Code.program c.args.code.now) c.args.rep c.args.first all c.args.byte c.parts.i c.parts.place c.parts.left rest within c.in-Loop.turns c.in-Loop.sizes c.in-Loop.next got c.in-Some.turn
    (subst (λ n. (c.in-Some.turn.number < c.in-Loop.turns.count) × (c.parts.left ≡ c.in-Some.turn.number * n + c.in-Some.turn.left) × (c.in-Some.turn.left < n)) c.size_by-size.ensures c.in-Some.ensures.some)

pub returns-in-Some-clause-fits : goal.returns-in-Some-clause-fits
returns-in-Some-clause-fits g c =
    let r = c.requires in
    let within : c.parts.i < number_of r.0 = let many = r.2 in let less = c.parts-test.true in omega (arith, many, less) in
    place_fits (g.C.Code.program c.args.code.now) c.args.rep c.args.first r.0 c.args.byte c.parts.i c.parts.place c.parts.left (c.parts.invariant.rest r.0 r.1 r.2) within r.3

pub parts-preserved : goal.parts-preserved
parts-preserved g c = record {
  rest = λ all stand many.
      let within : c.parts.i < number_of all = let less = c.parts-test.true in omega (arith, many, less) in
      let rest = c.parts.invariant.rest all stand many in
      let got = ap (λ code. slice_get code c.parts.place) (sym c.parts.invariant.same) ∙ c.at.ensures.value ∙ ap Some c.in-Loop.is in
      let size = c.size_by-size.ensures in
      subst (λ n. IsRest (g.C.Code.program c.args.code.now) c.args.rep c.args.first all c.args.byte (c.parts.i + 1) c.in-Loop.next (c.parts.left - c.in-Loop.turns.count * n)) (sym size)
      (rest_goes_on (g.C.Code.program c.args.code.now) c.args.rep c.args.first all c.args.byte c.parts.i c.parts.place c.parts.left rest within c.in-Loop.turns c.in-Loop.sizes c.in-Loop.next got
      (subst (λ n. c.in-Loop.turns.count * n ≤ c.parts.left) size c.in_default-share.ensures.none));
  same = c.at.ensures.same ∙ c.parts.invariant.same;
  reads = let one = c.at.ensures.reads in let before = c.parts.invariant.reads in omega (arith, one, before);
  few = let less = c.parts-test.true in omega (arith, less);
}

pub returns-clause-none : goal.returns-clause-none
returns-clause-none g c all stand many =
    parts_are_passed (g.C.Code.program c.args.code.now) c.args.rep c.args.first all c.args.byte c.parts.i c.parts.place c.parts.left (c.parts.invariant.rest all stand many)
    (let past = c.parts-test.false in omega (arith, many, past))
