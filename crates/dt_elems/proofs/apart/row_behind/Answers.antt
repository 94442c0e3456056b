use mir.Syntax.{w128}
use mir.Val.{to_z, of_z}
use Rattle.std.proofs.Common.{◌≡◌, ◌∙◌, ◌⊎◌, ◌≤◌, ◌+ℤ◌, ◌≤ℤ◌, Some, refl, sym, ap, subst, arith}
use Rattle.std.proofs.lemmas.Int.{ints, to_z-of_z}
use Rattle.dt_offsets.specs.declared.reach.Reach.{Reach}
use Rattle.dt_offsets.specs.Offsets.{row_offsets}
use Rattle.dt_offsets.specs.Span.{reach_of}
use Rattle.dt_offsets.proofs.Products.{factor_back}
use Rattle.dt_elems.specs.Apart.{Follow}
use Rattle.dt_elems.proofs.Rising.{if_some, follow_none, follow_row}
use Rattle.dt_elems.proofs.Spreading.{IsLong}
use Rattle.dt_elems.proofs.apart.row_behind.Goals as goal

pub returns-in_default : goal.returns-in_default
returns-in_default c =
    let first = factor_back c.args.first c.requires.first in
    let step = factor_back c.args.step c.requires.step in
    let next = to_z-of_z w128 c.args.next c.ranges.next in
    let reach = simp (first, step) at (ap (λ (r : Reach). r.span) c.row_reach.ensures.value) in
    subst (λ end. Follow c.args.room c.args.next (row_offsets c.args.first c.args.copies c.args.step) end) (sym next)
    (follow_none c.args.room c.args.next (row_offsets c.args.first c.args.copies c.args.step) (sym reach ∙ c.in_default.is))

pub returns : goal.returns
returns c =
    let first = factor_back c.args.first c.requires.first in
    let step = factor_back c.args.step c.requires.step in
    let next = to_z-of_z w128 c.args.next c.ranges.next in
    let room = to_z-of_z w128 c.args.room c.ranges.room in
    let s = c.span.inside in
    let xs = row_offsets c.args.first c.args.copies c.args.step in
    let known = simp (first, step) at (ap (λ (r : Reach). r.span) c.row_reach.ensures.value) in
    let reach : reach_of xs ≡ Some (record { lb = s.lb; ub = s.ub }) = sym known ∙ c.in-Some.is ∙ ap Some (sym c.span.view_is) in
    let rows : (c.args.copies ≤ 1) ⊎ IsLong c.args.room c.args.step = simp (room, step, c.from.ensures) at (c.if-not-steps_apart.ensures refl) in
    let total : (s.ub +ℤ c.args.room) ≡ to_z w128 (of_z w128 s.ub) +ℤ to_z w128 (of_z w128 c.args.room) = grind (arith, ints, to_z-of_z) in
    let behind : c.args.next ≤ℤ s.lb = grind (arith, ints, to_z-of_z) in
    if_some c.checked_add.result _ _ (λ end. Follow c.args.room c.args.next xs end) c.checked_add.ensures
    (subst (λ end. Follow c.args.room c.args.next xs end) total (follow_row c.args.first c.args.step c.args.next c.args.room s.lb s.ub c.args.copies c.requires.some rows reach behind))
