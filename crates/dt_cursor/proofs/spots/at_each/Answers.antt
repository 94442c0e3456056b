use mir.Syntax.{w64, w128}
use mir.Val.{to_z, of_z}
use Rattle.std.specs.Prelude.{◌∷◌, pos, ◌*ℤ◌}
use Rattle.std.proofs.Common.{◌≡◌, ◌+◌, ◌*◌, ◌<◌, ◌≤◌, ◌+ℤ◌, ◌/◌, ◌%◌, nat_abs, arith, ap, ◌∙◌, subst, refl, sym, length}
use Rattle.dt_cursor.specs.Search.{IsNarrowed}
use Rattle.dt_layout.specs.Body.{each, size as size_of}
use Rattle.dt_offsets.specs.Offsets.{spot_offsets}
use Rattle.dt_cursor.proofs.IntoCopies.{into_copy, past_copies}
use Rattle.dt_cursor.proofs.Narrowing.{ended, sought_each, back64, back128, framed}
use Rattle.dt_cursor.proofs.Reading.{ends_within, spots_here}
use Rattle.dt_cursor.proofs.SpotCopies.{spot_lawful}
use Rattle.dt_offsets.proofs.Products.{factor_back}
use Rattle.dt_cursor.specs.Rounds.{copy_round}
use Rattle.std.proofs.Math.Nat.{mod-eq-sub-div-mul, div-mul-le_self, mod-lt}
use Rattle.dt_cursor.proofs.spots.at_each.Goals as goal

pub returns-then-size-eq0-clause-step : goal.returns-then-size-eq0-clause-step
returns-then-size-eq0-clause-step g c body es sought =
    let s = sought_each (g.C.Code.program c.args.code.now) c.args.rep c.args.frames.now c.args.at c.args.base c.args.left body es sought c.args.count c.args.sizes c.args.next c.requires.2 in
    let size = c.size_by-size.ensures ∙ s.4 in
    let zero = c.if-size-eq0.true in
    let none : size_of c.args.rep s.1 ≡ 0 = omega (arith, zero, size) in
    let all = ap (λ n. length (spot_offsets s.0) * n) none in
    ended (g.C.Code.program c.args.code.now) c.args.rep c.args.frames.now c.args.at c.args.base c.args.left es (each s.0 s.1) s.2 (omega (arith, all)) c.args.frames.now refl

pub returns-then-size-eq0-clause-reads : goal.returns-then-size-eq0-clause-reads
returns-then-size-eq0-clause-reads g c =
    let r = c.requires in
    let s = sought_each (g.C.Code.program c.args.code.now) c.args.rep c.args.frames.now c.args.at c.args.base c.args.left r.0 r.1 r.3 c.args.count c.args.sizes c.args.next r.2 in
    let far = s.5 in
    let long = s.3 in
    let fits = c.ranges.next.fits in
    let ends = ends_within (g.C.Code.program c.args.code.now) c.args.at (each s.0 s.1) c.args.base s.2.run.placed in
    omega (arith, ends)

pub overflow_add-at : goal.overflow_add-at
overflow_add-at g c =
    let r = c.requires in
    let s = sought_each (g.C.Code.program c.args.code.now) c.args.rep c.args.frames.now c.args.at c.args.base c.args.left r.0 r.1 r.3 c.args.count c.args.sizes c.args.next r.2 in
    let far = s.5 in
    let long = s.3 in
    let fits = c.ranges.next.fits in
    omega (arith, far, fits)

pub spot_at-requires-clause-spots : goal.spot_at-requires-clause-spots
spot_at-requires-clause-spots g c =
    let r = c.requires in
    let s = sought_each (g.C.Code.program c.args.code.now) c.args.rep c.args.frames.now c.args.at c.args.base c.args.left r.0 r.1 r.3 c.args.count c.args.sizes c.args.next r.2 in
    let far = s.5 in
    let long = s.3 in
    let fits = c.ranges.next.fits in
    (s.0, spots_here (g.C.Code.program c.args.code.now) c.args.at s.0 s.1 c.args.base s.2.run.placed, s.3)

pub spot_at-requires-clause-fits : goal.spot_at-requires-clause-fits
spot_at-requires-clause-fits g c =
    let r = c.requires in
    let s = sought_each (g.C.Code.program c.args.code.now) c.args.rep c.args.frames.now c.args.at c.args.base c.args.left r.0 r.1 r.3 c.args.count c.args.sizes c.args.next r.2 in
    let far = s.5 in
    let long = s.3 in
    let fits = c.ranges.next.fits in
    omega (arith, far, long, fits)

pub returns-in_default-clause-step : goal.returns-in_default-clause-step
returns-in_default-clause-step g c body es sought =
    let s = sought_each (g.C.Code.program c.args.code.now) c.args.rep c.args.frames.now c.args.at c.args.base c.args.left body es sought c.args.count c.args.sizes c.args.next c.requires.2 in
    let size = c.size_by-size.ensures ∙ s.4 in
    let are = spots_here (g.C.Code.program c.args.code.now) c.args.at s.0 s.1 c.args.base s.2.run.placed in
    let past = c.in_default.ensures.none s.0 are s.3 in
    let share : c.args.left / c.size_by-size.result * size_of c.args.rep s.1 ≤ c.args.left =
    subst (λ n. c.args.left / c.size_by-size.result * n ≤ c.args.left) size (div-mul-le_self c.args.left c.size_by-size.result) in
    ended (g.C.Code.program c.args.code.now) c.args.rep c.args.frames.now c.args.at c.args.base c.args.left es (each s.0 s.1) s.2
    (past_copies c.args.rep s.0 s.1 (c.args.left / c.size_by-size.result) c.args.left past share) c.args.frames.now refl

pub returns-in_default-clause-reads : goal.returns-in_default-clause-reads
returns-in_default-clause-reads g c =
    let r = c.requires in
    let s = sought_each (g.C.Code.program c.args.code.now) c.args.rep c.args.frames.now c.args.at c.args.base c.args.left r.0 r.1 r.3 c.args.count c.args.sizes c.args.next r.2 in
    let far = s.5 in
    let long = s.3 in
    let fits = c.ranges.next.fits in
    let ends = ends_within (g.C.Code.program c.args.code.now) c.args.at (each s.0 s.1) c.args.base s.2.run.placed in
    let reads = c.spot_at.ensures.reads in
    omega (arith, ends, reads, long)

pub along-by-requires-clause-step : goal.along-by-requires-clause-step
along-by-requires-clause-step g c =
    let r = c.requires in
    let s = sought_each (g.C.Code.program c.args.code.now) c.args.rep c.args.frames.now c.args.at c.args.base c.args.left r.0 r.1 r.3 c.args.count c.args.sizes c.args.next r.2 in
    let are = spots_here (g.C.Code.program c.args.code.now) c.args.at s.0 s.1 c.args.base s.2.run.placed in
    let found = c.in-Some.ensures.some s.0 are s.3 in
    let lawful = spot_lawful s.0 c.in-Some.found.number c.in-Some.found.spot s.2.run.placed.lawful.0 found.spot in
    subst (λ x. nat_abs x < 9903520314283042199192993792) (sym (factor_back c.in-Some.found.spot.step lawful.step)) lawful.step

pub along-by-requires-clause-near : goal.along-by-requires-clause-near
along-by-requires-clause-near g c =
    let r = c.requires in
    let s = sought_each (g.C.Code.program c.args.code.now) c.args.rep c.args.frames.now c.args.at c.args.base c.args.left r.0 r.1 r.3 c.args.count c.args.sizes c.args.next r.2 in
    let are = spots_here (g.C.Code.program c.args.code.now) c.args.at s.0 s.1 c.args.base s.2.run.placed in
    let found = c.in-Some.ensures.some s.0 are s.3 in
    let lawful = spot_lawful s.0 c.in-Some.found.number c.in-Some.found.spot s.2.run.placed.lawful.0 found.spot in
    let first : nat_abs (to_z w128 (of_z w128 c.in-Some.found.spot.first)) < 9903520314283042199192993792 =
    subst (λ x. nat_abs x < 9903520314283042199192993792) (sym (factor_back c.in-Some.found.spot.first lawful.first)) lawful.first in
    let few = c.from.ensures in
    let fits = c.type_inv.found in
    omega (arith, first, few, fits)

pub overflow_add-result : goal.overflow_add-result
overflow_add-result g c =
    let r = c.requires in
    let s = sought_each (g.C.Code.program c.args.code.now) c.args.rep c.args.frames.now c.args.at c.args.base c.args.left r.0 r.1 r.3 c.args.count c.args.sizes c.args.next r.2 in
    let far = s.5 in
    let long = s.3 in
    let fits = c.ranges.next.fits in
    omega (arith, far, fits)

pub overflow_add-result-2 : goal.overflow_add-result-2
overflow_add-result-2 g c =
    let r = c.requires in
    let s = sought_each (g.C.Code.program c.args.code.now) c.args.rep c.args.frames.now c.args.at c.args.base c.args.left r.0 r.1 r.3 c.args.count c.args.sizes c.args.next r.2 in
    let far = s.5 in
    let long = s.3 in
    let fits = c.ranges.next.fits in
    omega (arith, far, fits, long)

pub moved-requires : goal.moved-requires
moved-requires g c =
    let r = c.requires in
    let s = sought_each (g.C.Code.program c.args.code.now) c.args.rep c.args.frames.now c.args.at c.args.base c.args.left r.0 r.1 r.3 c.args.count c.args.sizes c.args.next r.2 in
    let are = spots_here (g.C.Code.program c.args.code.now) c.args.at s.0 s.1 c.args.base s.2.run.placed in
    let found = c.in-Some.ensures.some s.0 are s.3 in
    let lawful = spot_lawful s.0 c.in-Some.found.number c.in-Some.found.spot s.2.run.placed.lawful.0 found.spot in
    let size = c.size_by-size.ensures ∙ s.4 in
    let some = c.if-size-eq0.false in
    let less : c.args.left % c.size_by-size.result < size_of c.args.rep s.1 = subst (λ n. c.args.left % c.size_by-size.result < n) size (mod-lt c.args.left {m = c.size_by-size.result} (omega (arith, some))) in
    let left_over = mod-eq-sub-div-mul c.args.left c.size_by-size.result in
    let div = div-mul-le_self c.args.left c.size_by-size.result in
    let parts : c.args.left ≡ c.args.left / c.size_by-size.result * c.size_by-size.result + c.args.left % c.size_by-size.result = omega (arith, left_over, div) in
    let place = parts ∙ ap (λ n. c.args.left / c.size_by-size.result * n + c.args.left % c.size_by-size.result) size in
    let offset = c.in-Some.found.spot.first +ℤ (pos c.in-Some.found.copy *ℤ c.in-Some.found.spot.step) in
    let times : c.from.result ≡ c.in-Some.found.copy = c.from.ensures in
    let by : to_z w128 (of_z w128 c.along-by.result) ≡ offset =
    back128 c.along-by.result c.along-by.type_inv ∙ c.along-by.ensures
    ∙ ap (λ x. x +ℤ (pos c.from.result *ℤ to_z w128 (of_z w128 c.in-Some.found.spot.step))) (factor_back c.in-Some.found.spot.first lawful.first)
    ∙ ap (λ y. c.in-Some.found.spot.first +ℤ (pos c.from.result *ℤ y)) (factor_back c.in-Some.found.spot.step lawful.step)
    ∙ ap (λ k. c.in-Some.found.spot.first +ℤ (pos k *ℤ c.in-Some.found.spot.step)) times in
    let base = back64 c.args.base c.ranges.base.sfits in
    let n = into_copy (g.C.Code.program c.args.code.now) c.args.rep c.args.frames.now c.args.at c.args.base c.args.left r.1 s.0 s.1 s.2 (c.args.left / c.size_by-size.result) (c.args.left % c.size_by-size.result) c.in-Some.found found place less in
    subst (λ x. nat_abs x < 9223372036854775808) (ap (λ x. x +ℤ offset) (sym base) ∙ ap (λ y. to_z w64 (of_z w64 c.args.base) +ℤ y) (sym by))
    n.near

pub returns-clause-step : goal.returns-clause-step
returns-clause-step g c body es sought =
    let s = sought_each (g.C.Code.program c.args.code.now) c.args.rep c.args.frames.now c.args.at c.args.base c.args.left body es sought c.args.count c.args.sizes c.args.next c.requires.2 in
    let are = spots_here (g.C.Code.program c.args.code.now) c.args.at s.0 s.1 c.args.base s.2.run.placed in
    let found = c.in-Some.ensures.some s.0 are s.3 in
    let lawful = spot_lawful s.0 c.in-Some.found.number c.in-Some.found.spot s.2.run.placed.lawful.0 found.spot in
    let size = c.size_by-size.ensures ∙ s.4 in
    let some = c.if-size-eq0.false in
    let less : c.args.left % c.size_by-size.result < size_of c.args.rep s.1 = subst (λ n. c.args.left % c.size_by-size.result < n) size (mod-lt c.args.left {m = c.size_by-size.result} (omega (arith, some))) in
    let left_over = mod-eq-sub-div-mul c.args.left c.size_by-size.result in
    let div = div-mul-le_self c.args.left c.size_by-size.result in
    let parts : c.args.left ≡ c.args.left / c.size_by-size.result * c.size_by-size.result + c.args.left % c.size_by-size.result = omega (arith, left_over, div) in
    let place = parts ∙ ap (λ n. c.args.left / c.size_by-size.result * n + c.args.left % c.size_by-size.result) size in
    let offset = c.in-Some.found.spot.first +ℤ (pos c.in-Some.found.copy *ℤ c.in-Some.found.spot.step) in
    let times : c.from.result ≡ c.in-Some.found.copy = c.from.ensures in
    let by : to_z w128 (of_z w128 c.along-by.result) ≡ offset =
    back128 c.along-by.result c.along-by.type_inv ∙ c.along-by.ensures
    ∙ ap (λ x. x +ℤ (pos c.from.result *ℤ to_z w128 (of_z w128 c.in-Some.found.spot.step))) (factor_back c.in-Some.found.spot.first lawful.first)
    ∙ ap (λ y. c.in-Some.found.spot.first +ℤ (pos c.from.result *ℤ y)) (factor_back c.in-Some.found.spot.step lawful.step)
    ∙ ap (λ k. c.in-Some.found.spot.first +ℤ (pos k *ℤ c.in-Some.found.spot.step)) times in
    let base = back64 c.args.base c.ranges.base.sfits in
    let n = into_copy (g.C.Code.program c.args.code.now) c.args.rep c.args.frames.now c.args.at c.args.base c.args.left es s.0 s.1 s.2 (c.args.left / c.size_by-size.result) (c.args.left % c.size_by-size.result) c.in-Some.found found place less in
    let there = back64 c.moved.result c.moved.type_inv ∙ c.moved.ensures ∙ ap (λ x. x +ℤ to_z w128 (of_z w128 c.along-by.result)) base ∙ ap (λ y. c.args.base +ℤ y) by in
    subst (λ x. IsNarrowed (g.C.Code.program c.args.code.now) c.args.rep es c.args.left c.push.new.self (c.args.at + 1 + c.args.count) x (c.args.left % c.size_by-size.result)) (sym there)
    (subst (λ fs. IsNarrowed (g.C.Code.program c.args.code.now) c.args.rep es c.args.left fs (c.args.at + 1 + c.args.count) (c.args.base +ℤ offset) (c.args.left % c.size_by-size.result))
    (sym (framed c.push.new.self c.args.frames.now c.args.at c.in-Some.found.number c.in-Some.found.copy _ c.args.base c.push.ensures base))
    (subst (λ k. IsNarrowed (g.C.Code.program c.args.code.now) c.args.rep es c.args.left ((copy_round c.args.at k s.1 c.args.base c.in-Some.found.number c.in-Some.found.spot c.in-Some.found.copy).frame ∷ c.args.frames.now) k (c.args.base +ℤ offset) (c.args.left % c.size_by-size.result)) (ap (λ k. c.args.at + 1 + k) s.3) n))
