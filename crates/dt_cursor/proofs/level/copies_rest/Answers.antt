use mir.Syntax.{w64, w128}
use mir.Val.{to_z, of_z}
use Rattle.std.specs.Prelude.{pos, ◌*ℤ◌}
use Rattle.std.proofs.Common.{◌≡◌, ◌+◌, ◌<◌, ◌+ℤ◌, length, nat_abs, arith, ap, ◌∙◌, subst, sym}
use Rattle.std.proofs.lemmas.Option.{slice_get_within}
use Rattle.dt_layout.specs.Body.{each}
use Rattle.dt_offsets.proofs.Products.{factor_back}
use Rattle.dt_offsets.specs.declared.turns.Spot.{Spot}
use Rattle.dt_cursor.specs.Frames.{IsHalfRun}
use Rattle.dt_cursor.proofs.Halfway.{half_copy, inside_of}
use Rattle.dt_cursor.proofs.Narrowing.{back64, back128}
use Rattle.dt_cursor.proofs.Named.{back_here}
use Rattle.dt_cursor.proofs.NextRounds.{frame_back, half_got, half_spots}
use Rattle.dt_cursor.proofs.SpotCopies.{spot_lawful}
use Rattle.dt_cursor.proofs.WithinLevel.{at_level, copies_ahead, copy_near, each_one, in_each, in_level}
use Rattle.dt_kinds.proofs.Table.{native_size-pos}
use Rattle.dt_cursor.proofs.level.copies_rest.Goals as goal

pub overflow_add-outer-2 : goal.overflow_add-outer-2
overflow_add-outer-2 c =
    let r = c.requires.run in
    let level = at_level c.args.program.now c.args.frame c.args.outer r.2 r.3 r.5 in
    let is = in_each c.args.program.now level.0 c.args.frame c.args.outer r.2 r.3 c.args.count r.0 r.1 r.4 level.1 in
    let copy = half_copy c.args.program.now (length r.2) c.args.outer is.spots is.body is.later is.half in
    let within = slice_get_within is.spots c.args.outer.turn copy.spot copy.got in
    let many = is.many in
    let place = c.requires.place in
    let fits = c.ranges.inside.fits in
    omega (arith, within, many, place, fits)

pub spot_of-spot-requires : goal.spot_of-spot-requires
spot_of-spot-requires c =
    let r = c.requires.run in
    let level = at_level c.args.program.now c.args.frame c.args.outer r.2 r.3 r.5 in
    let is = in_each c.args.program.now level.0 c.args.frame c.args.outer r.2 r.3 c.args.count r.0 r.1 r.4 level.1 in
    let copy = half_copy c.args.program.now (length r.2) c.args.outer is.spots is.body is.later is.half in
    (copy.spot, half_spots c.args.program.now (length r.2) c.args.outer is.spots is.body is.later is.half c.args.outer.turn copy.spot copy.got)

pub along-by-requires-clause-step : goal.along-by-requires-clause-step
along-by-requires-clause-step c =
    let r = c.requires.run in
    let level = at_level c.args.program.now c.args.frame c.args.outer r.2 r.3 r.5 in
    let is = in_each c.args.program.now level.0 c.args.frame c.args.outer r.2 r.3 c.args.count r.0 r.1 r.4 level.1 in
    let got = half_got c.args.program.now (length r.2) c.args.outer is.spots is.body is.later is.half c.spot_of-spot.result c.spot_of-spot.ensures.value in
    let lawful = spot_lawful is.spots c.args.outer.turn c.spot_of-spot.result is.half.placed.lawful.0 got in
    subst (λ x. nat_abs x < 9903520314283042199192993792) (sym (factor_back c.spot_of-spot.result.step lawful.step)) lawful.step

pub along-by-requires-clause-near : goal.along-by-requires-clause-near
along-by-requires-clause-near c =
    let r = c.requires.run in
    let level = at_level c.args.program.now c.args.frame c.args.outer r.2 r.3 r.5 in
    let is = in_each c.args.program.now level.0 c.args.frame c.args.outer r.2 r.3 c.args.count r.0 r.1 r.4 level.1 in
    let got = half_got c.args.program.now (length r.2) c.args.outer is.spots is.body is.later is.half c.spot_of-spot.result c.spot_of-spot.ensures.value in
    let lawful = spot_lawful is.spots c.args.outer.turn c.spot_of-spot.result is.half.placed.lawful.0 got in
    let copy = half_copy c.args.program.now (length r.2) c.args.outer is.spots is.body is.later is.half in
    let same : copy.spot ≡ c.spot_of-spot.result = (let both = sym copy.got ∙ got in cc) in
    let within = subst (λ (s : Spot). c.args.outer.copy < s.copies) same copy.within in
    let first : nat_abs (to_z w128 (of_z w128 c.spot_of-spot.result.first)) < 9903520314283042199192993792 =
    subst (λ x. nat_abs x < 9903520314283042199192993792) (sym (factor_back c.spot_of-spot.result.first lawful.first)) lawful.first in
    let few = c.spot_of-spot.ensures.few in
    let times = c.from.ensures in
    omega (arith, first, few, within, times)

pub moved-base-requires : goal.moved-base-requires
moved-base-requires c =
    let r = c.requires.run in
    let level = at_level c.args.program.now c.args.frame c.args.outer r.2 r.3 r.5 in
    let is = in_each c.args.program.now level.0 c.args.frame c.args.outer r.2 r.3 c.args.count r.0 r.1 r.4 level.1 in
    let got = half_got c.args.program.now (length r.2) c.args.outer is.spots is.body is.later is.half c.spot_of-spot.result c.spot_of-spot.ensures.value in
    let lawful = spot_lawful is.spots c.args.outer.turn c.spot_of-spot.result is.half.placed.lawful.0 got in
    let offset = c.spot_of-spot.result.first +ℤ (pos c.args.outer.copy *ℤ c.spot_of-spot.result.step) in
    let times : c.from.result ≡ c.args.outer.copy = c.from.ensures in
    let by : to_z w128 (of_z w128 c.along-by.result) ≡ offset =
    back128 c.along-by.result c.along-by.type_inv ∙ c.along-by.ensures
    ∙ ap (λ x. x +ℤ (pos c.from.result *ℤ to_z w128 (of_z w128 c.spot_of-spot.result.step))) (factor_back c.spot_of-spot.result.first lawful.first)
    ∙ ap (λ y. c.spot_of-spot.result.first +ℤ (pos c.from.result *ℤ y)) (factor_back c.spot_of-spot.result.step lawful.step)
    ∙ ap (λ k. c.spot_of-spot.result.first +ℤ (pos k *ℤ c.spot_of-spot.result.step)) times in
    let base = frame_back c.args.program.now (length r.2) c.args.outer (each is.spots is.body) is.later is.half in
    subst (λ x. nat_abs x < 9223372036854775808) (ap (λ x. x +ℤ offset) (sym base) ∙ ap (λ y. to_z w64 (of_z w64 c.args.outer.base) +ℤ y) (sym by))
    (copy_near c.args.program.now (length r.2) c.args.outer is.spots is.body is.later is.half c.spot_of-spot.result got)

pub copies_left-requires-clause-spot : goal.copies_left-requires-clause-spot
copies_left-requires-clause-spot c =
    let r = c.requires.run in
    let level = at_level c.args.program.now c.args.frame c.args.outer r.2 r.3 r.5 in
    let is = in_each c.args.program.now level.0 c.args.frame c.args.outer r.2 r.3 c.args.count r.0 r.1 r.4 level.1 in
    let got = half_got c.args.program.now (length r.2) c.args.outer is.spots is.body is.later is.half c.spot_of-spot.result c.spot_of-spot.ensures.value in
    spot_lawful is.spots c.args.outer.turn c.spot_of-spot.result is.half.placed.lawful.0 got

pub copies_left-requires-clause-within : goal.copies_left-requires-clause-within
copies_left-requires-clause-within c =
    let r = c.requires.run in
    let level = at_level c.args.program.now c.args.frame c.args.outer r.2 r.3 r.5 in
    let is = in_each c.args.program.now level.0 c.args.frame c.args.outer r.2 r.3 c.args.count r.0 r.1 r.4 level.1 in
    let copy = half_copy c.args.program.now (length r.2) c.args.outer is.spots is.body is.later is.half in
    let got = half_got c.args.program.now (length r.2) c.args.outer is.spots is.body is.later is.half c.spot_of-spot.result c.spot_of-spot.ensures.value in
    let same : copy.spot ≡ c.spot_of-spot.result = (let both = sym copy.got ∙ got in cc) in
    subst (λ (s : Spot). c.args.outer.copy < s.copies) same copy.within

pub returns-then-frame-inside-clause-rest : goal.returns-then-frame-inside-clause-rest
returns-then-frame-inside-clause-rest c sizes next kind frames es read one_read stand =
    let is = in_each c.args.program.now kind c.args.frame c.args.outer frames es c.args.count sizes next read (in_level c.args.program.now kind c.args.frame c.args.outer frames es one_read stand) in
    let place : c.args.inside ≡ inside_of c.args.outer is.spots = c.requires.place ∙ ap (λ n. c.args.outer.instr + 1 + n) (sym is.many) in
    let single = each_one c.args.program.now kind (length frames) c.args.outer is.spots is.body is.later is.half c.args.frame.instr (c.if-frame-inside.true ∙ place) one_read in
    let half = subst (λ b. IsHalfRun c.args.program.now (length frames) c.args.outer (each is.spots b) is.later) single is.half in
    let got = half_got c.args.program.now (length frames) c.args.outer is.spots is.body is.later is.half c.spot_of-spot.result c.spot_of-spot.ensures.value in
    let lawful = spot_lawful is.spots c.args.outer.turn c.spot_of-spot.result is.half.placed.lawful.0 got in
    let offset = c.spot_of-spot.result.first +ℤ (pos c.args.outer.copy *ℤ c.spot_of-spot.result.step) in
    let times : c.from.result ≡ c.args.outer.copy = c.from.ensures in
    let by : to_z w128 (of_z w128 c.along-by.result) ≡ offset =
    back128 c.along-by.result c.along-by.type_inv ∙ c.along-by.ensures
    ∙ ap (λ x. x +ℤ (pos c.from.result *ℤ to_z w128 (of_z w128 c.spot_of-spot.result.step))) (factor_back c.spot_of-spot.result.first lawful.first)
    ∙ ap (λ y. c.spot_of-spot.result.first +ℤ (pos c.from.result *ℤ y)) (factor_back c.spot_of-spot.result.step lawful.step)
    ∙ ap (λ k. c.spot_of-spot.result.first +ℤ (pos k *ℤ c.spot_of-spot.result.step)) times in
    let base = frame_back c.args.program.now (length frames) c.args.outer (each is.spots is.body) is.later is.half in
    let there : c.args.frame.base ≡ c.args.outer.base +ℤ offset =
    sym (back_here c.args.frame.base (stand.2.offset (native_size-pos stand.0))) ∙ ap (to_z w64) c.if-frame-base.true ∙ back64 c.moved-base.result c.moved-base.type_inv ∙ c.moved-base.ensures
    ∙ ap (λ x. x +ℤ to_z w128 (of_z w128 c.along-by.result)) base ∙ ap (λ y. c.args.outer.base +ℤ y) by in
    copies_ahead c.args.program.now kind frames c.args.outer is.spots is.later is.rest half is.outside c.spot_of-spot.result got c.copies_left.result c.copies_left.ensures.rest c.copies_left.ensures.kind
    c.spot_of-spot.ensures.few c.args.frame.base there es is.all
