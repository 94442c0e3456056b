use Rattle.std.proofs.Common.{◌≡◌, ◌+◌, ◌<◌, arith, ap, subst, ◌∙◌, sym}
use Rattle.std.proofs.lemmas.Option.{slice_get_within}
use Rattle.dt_cursor.proofs.Halfway.{half_copy, inside_of}
use Rattle.dt_cursor.proofs.NextRounds.{as_place, copy_last, half_spots, half_got, other_near, other_next, same_near, same_next}
use Rattle.dt_cursor.proofs.Options.{is_none}
use Rattle.dt_cursor.proofs.SpotCopies.{spot_lawful}
use Rattle.dt_offsets.specs.declared.turns.Spot.{Spot}
use Rattle.dt_cursor.proofs.onward.next_copy.Goals as goal

pub overflow_add-first-2 : goal.overflow_add-first-2
overflow_add-first-2 c =
    let r = c.requires.run in
    let is = half_copy c.args.program.now r.0 c.args.frame r.1 r.2 r.3 r.4 in
    let within = slice_get_within r.1 c.args.frame.turn is.spot is.got in
    let long = r.5 in
    let place = c.requires.place in
    let fits = c.ranges.inside.fits in
    omega (arith, within, long, place, fits)

pub spot_of-spot-requires : goal.spot_of-spot-requires
spot_of-spot-requires c =
    let r = c.requires.run in
    let is = half_copy c.args.program.now r.0 c.args.frame r.1 r.2 r.3 r.4 in
    (is.spot, half_spots c.args.program.now r.0 c.args.frame r.1 r.2 r.3 r.4 c.args.frame.turn is.spot is.got)

pub overflow_add-copy : goal.overflow_add-copy
overflow_add-copy c =
    let r = c.requires.run in
    let is = half_copy c.args.program.now r.0 c.args.frame r.1 r.2 r.3 r.4 in
    let got = half_got c.args.program.now r.0 c.args.frame r.1 r.2 r.3 r.4 c.spot_of-spot.result c.spot_of-spot.ensures.value in
    let within = is.within in
    let same : is.spot ≡ c.spot_of-spot.result = (let both = sym is.got ∙ got in cc) in
    let less = subst (λ (s : Spot). c.args.frame.copy < s.copies) same within in
    let h = c.spot_of-spot.ensures.few in omega (arith, less, h)

pub copy_at-requires-clause-spot : goal.copy_at-requires-clause-spot
copy_at-requires-clause-spot c =
    let r = c.requires.run in
    let got = half_got c.args.program.now r.0 c.args.frame r.1 r.2 r.3 r.4 c.spot_of-spot.result c.spot_of-spot.ensures.value in
    spot_lawful r.1 c.args.frame.turn c.spot_of-spot.result r.4.placed.lawful.0 got

pub copy_at-requires-clause-near : goal.copy_at-requires-clause-near
copy_at-requires-clause-near c =
    let r = c.requires.run in
    let got = half_got c.args.program.now r.0 c.args.frame r.1 r.2 r.3 r.4 c.spot_of-spot.result c.spot_of-spot.ensures.value in
    same_near c.args.program.now r.0 c.args.frame r.1 r.2 r.3 r.4 c.spot_of-spot.result got c.if-copy-spot.true

pub returns-then-copy-spot-clause-some : goal.returns-then-copy-spot-clause-some
returns-then-copy-spot-clause-some c all body long levels later half =
    let got = half_got c.args.program.now levels c.args.frame all body later half c.spot_of-spot.result c.spot_of-spot.ensures.value in
    let place : c.args.inside ≡ inside_of c.args.frame all = c.requires.place ∙ ap (λ n. c.args.frame.instr + 1 + n) (sym long) in
    same_next c.args.program.now levels c.args.frame all body later half c.spot_of-spot.result got c.if-copy-spot.true c.copy_at.result
    (c.copy_at.ensures ∙ as_place _ _ c.args.inside (inside_of c.args.frame all) place)

pub overflow_add-number : goal.overflow_add-number
overflow_add-number c =
    let r = c.requires.run in
    let is = half_copy c.args.program.now r.0 c.args.frame r.1 r.2 r.3 r.4 in
    let within = slice_get_within r.1 c.args.frame.turn is.spot is.got in
    let long = r.5 in
    let fits = c.ranges.count.fits in
    omega (arith, within, long, fits)

pub some_spot-requires-clause-spots : goal.some_spot-requires-clause-spots
some_spot-requires-clause-spots c =
    let r = c.requires.run in
    (r.1, half_spots c.args.program.now r.0 c.args.frame r.1 r.2 r.3 r.4, r.5)

pub some_spot-requires-clause-within : goal.some_spot-requires-clause-within
some_spot-requires-clause-within c =
    let r = c.requires.run in
    let is = half_copy c.args.program.now r.0 c.args.frame r.1 r.2 r.3 r.4 in
    let within = slice_get_within r.1 c.args.frame.turn is.spot is.got in
    let long = r.5 in
    omega (arith, within, long)

pub some_spot-requires-clause-fits : goal.some_spot-requires-clause-fits
some_spot-requires-clause-fits c =
    let place = c.requires.place in
    let fits = c.ranges.inside.fits in
    omega (arith, place, fits)

pub returns-in_err-found-clause-none : goal.returns-in_err-found-clause-none
returns-in_err-found-clause-none c =
    is_none c.from_residual.result _ (λ all body long levels later half.
    let got = half_got c.args.program.now levels c.args.frame all body later half c.spot_of-spot.result c.spot_of-spot.ensures.value in
    copy_last c.args.program.now levels c.args.frame all body later half c.spot_of-spot.result got c.if-copy-spot.false c.args.count long
    (c.in_err-found.ensures.none all (half_spots c.args.program.now levels c.args.frame all body later half) long))

pub copy_at-requires-2-clause-spot : goal.copy_at-requires-2-clause-spot
copy_at-requires-2-clause-spot c =
    let r = c.requires.run in
    let is = c.in_ok-found.ensures.some r.1 (half_spots c.args.program.now r.0 c.args.frame r.1 r.2 r.3 r.4) r.5 in
    spot_lawful r.1 c.in_ok-found.found.number c.in_ok-found.found.spot r.4.placed.lawful.0 is.spot

pub copy_at-requires-2-clause-near : goal.copy_at-requires-2-clause-near
copy_at-requires-2-clause-near c =
    let r = c.requires.run in
    let got = half_got c.args.program.now r.0 c.args.frame r.1 r.2 r.3 r.4 c.spot_of-spot.result c.spot_of-spot.ensures.value in
    let is = c.in_ok-found.ensures.some r.1 (half_spots c.args.program.now r.0 c.args.frame r.1 r.2 r.3 r.4) r.5 in
    other_near c.args.program.now r.0 c.args.frame r.1 r.2 r.3 r.4 c.spot_of-spot.result got c.if-copy-spot.false c.in_ok-found.found is

pub returns-clause-some : goal.returns-clause-some
returns-clause-some c all body long levels later half =
    let got = half_got c.args.program.now levels c.args.frame all body later half c.spot_of-spot.result c.spot_of-spot.ensures.value in
    let place : c.args.inside ≡ inside_of c.args.frame all = c.requires.place ∙ ap (λ n. c.args.frame.instr + 1 + n) (sym long) in
    let is = c.in_ok-found.ensures.some all (half_spots c.args.program.now levels c.args.frame all body later half) long in
    other_next c.args.program.now levels c.args.frame all body later half c.spot_of-spot.result got c.if-copy-spot.false c.in_ok-found.found is c.copy_at-2.result
    (c.copy_at-2.ensures ∙ as_place _ _ c.args.inside (inside_of c.args.frame all) place)
