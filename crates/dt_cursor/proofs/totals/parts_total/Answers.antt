use Rattle.std.proofs.Common.{◌*◌, Some, arith, ap, subst, ◌∙◌, sym}
use Rattle.dt_cursor.specs.Onward.{AreParts}
use Rattle.dt_cursor.specs.Search.{size_in}
use Rattle.dt_cursor.proofs.Halfway.{part_passed}
use Rattle.dt_cursor.proofs.Narrowing.{size_is}
use Rattle.dt_cursor.proofs.NextRounds.{loop_part, parts_end, parts_within}
use Rattle.dt_layout.specs.Body.{sizes}
use Rattle.dt_cursor.proofs.totals.parts_total.Goals as goal

pub parts-init : goal.parts-init
parts-init c = λ parts are. (parts, are, omega arith)

pub at-requires : goal.at-requires
at-requires c =
    let r = c.requires in
    let is = c.parts.invariant r.0 r.1 in
    parts_within c.args.program.now c.parts.place is.0 is.1

pub overflow_mul-bytes : goal.overflow_mul-bytes
overflow_mul-bytes c =
    let r = c.requires in
    let is = c.parts.invariant r.0 r.1 in
    let there = loop_part c.args.program.now c.parts.place is.0 is.1 c.in-Loop.turns c.in-Loop.sizes c.in-Loop.next (c.at.ensures ∙ ap Some c.in-Loop.is) in
    let here = ap (λ n. c.in-Loop.turns.count * n) (c.size_by.ensures ∙ ap (size_in c.args.rep) there.3 ∙ size_is c.args.rep there.0) in
    let parts = ap (sizes c.args.rep) there.2 in
    let so_far = is.2 in
    let most = r.2 in
    omega (arith, here, parts, so_far, most)

pub overflow_add-bytes : goal.overflow_add-bytes
overflow_add-bytes c =
    let r = c.requires in
    let is = c.parts.invariant r.0 r.1 in
    let there = loop_part c.args.program.now c.parts.place is.0 is.1 c.in-Loop.turns c.in-Loop.sizes c.in-Loop.next (c.at.ensures ∙ ap Some c.in-Loop.is) in
    let here = ap (λ n. c.in-Loop.turns.count * n) (c.size_by.ensures ∙ ap (size_in c.args.rep) there.3 ∙ size_is c.args.rep there.0) in
    let parts = ap (sizes c.args.rep) there.2 in
    let so_far = is.2 in
    let most = r.2 in
    omega (arith, here, parts, so_far, most)

pub parts-smaller : goal.parts-smaller
parts-smaller c =
    let r = c.requires in
    let is = c.parts.invariant r.0 r.1 in
    let within = parts_within c.args.program.now c.parts.place is.0 is.1 in
    let there = loop_part c.args.program.now c.parts.place is.0 is.1 c.in-Loop.turns c.in-Loop.sizes c.in-Loop.next (c.at.ensures ∙ ap Some c.in-Loop.is) in
    let next = there.4 in
    omega (arith, within, next)

pub parts-preserved : goal.parts-preserved
parts-preserved c = λ parts are.
    let is = c.parts.invariant parts are in
    let there = loop_part c.args.program.now c.parts.place is.0 is.1 c.in-Loop.turns c.in-Loop.sizes c.in-Loop.next (c.at.ensures ∙ ap Some c.in-Loop.is) in
    let here = ap (λ n. c.in-Loop.turns.count * n) (c.size_by.ensures ∙ ap (size_in c.args.rep) there.3 ∙ size_is c.args.rep there.0) in
    let left = ap (sizes c.args.rep) there.2 in
    let so_far = is.2 in (
      there.1,
      subst (λ k. AreParts c.args.program.now k there.1) (sym there.4) (part_passed c.args.program.now c.parts.place c.in-Loop.turns there.0 there.1 (subst (AreParts c.args.program.now c.parts.place) there.2 is.1)),
      omega (arith, here, left, so_far),
    )

pub returns : goal.returns
returns c parts are =
    let is = c.parts.invariant parts are in
    let end = ap (sizes c.args.rep) (parts_end c.args.program.now c.parts.place is.0 is.1 c.at.result c.at.ensures (λ u sizes next e. c.in_default.not-Loop u sizes next e)) in
    let so_far = is.2 in
    omega (arith, end, so_far)
