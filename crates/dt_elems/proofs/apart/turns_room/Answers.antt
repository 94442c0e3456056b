use mir.Syntax.{w128}
use mir.Val.{to_z, of_z}
use Rattle.std.proofs.Common.{◌≡◌, ◌∙◌, ◌+ℤ◌, ◌-ℤ◌, ◌≤ℤ◌, Some, sym, ap, subst, arith}
use Rattle.std.proofs.lemmas.Int.{ints, to_z-of_z}
use Rattle.dt_offsets.specs.Offsets.{turn_offsets}
use Rattle.dt_offsets.specs.Span.{reach_of}
use Rattle.dt_elems.specs.Apart.{AreWithin}
use Rattle.dt_elems.proofs.Rising.{if_some}
use Rattle.dt_elems.proofs.Spreading.{between_reach, ordered_reach, within_ends, within_none}
use Rattle.dt_elems.proofs.apart.turns_room.Goals as goal

pub returns-in-None-clause-within : goal.returns-in-None-clause-within
returns-in-None-clause-within c = within_none c.args.room (to_z w128 (of_z w128 c.args.room)) (turn_offsets c.args.turns.now) (sym c.in-None.ensures)

pub returns-in_ok-checked_add-in-Some-clause-within : goal.returns-in_ok-checked_add-in-Some-clause-within
returns-in_ok-checked_add-in-Some-clause-within c =
    let xs = turn_offsets c.args.turns.now in
    let s = c.span.inside in
    let reach : reach_of xs ≡ Some (record { lb = s.lb; ub = s.ub }) = sym c.in-Some.ensures ∙ ap Some (sym c.span.view_is) in
    let within = within_ends c.args.room s.lb s.ub xs (between_reach xs s.lb s.ub reach) in
    let whole : ((c.args.room +ℤ s.ub) -ℤ s.lb) ≡ to_z w128 (of_z w128 c.in_ok-checked_add-in-Some.field-0) -ℤ to_z w128 (of_z w128 s.lb) = grind (arith, ints, to_z-of_z) in
    if_some c.checked_sub.result _ _ (λ w. AreWithin c.args.room w xs) c.checked_sub.ensures (subst (λ w. AreWithin c.args.room w xs) whole within)

pub returns-in_ok-checked_add-in-Some-clause-more : goal.returns-in_ok-checked_add-in-Some-clause-more
returns-in_ok-checked_add-in-Some-clause-more c =
    let xs = turn_offsets c.args.turns.now in
    let s = c.span.inside in
    let reach : reach_of xs ≡ Some (record { lb = s.lb; ub = s.ub }) = sym c.in-Some.ensures ∙ ap Some (sym c.span.view_is) in
    let ordered = ordered_reach xs s.lb s.ub reach in
    if_some c.checked_sub.result _ _ (λ w. c.args.room ≤ℤ w) c.checked_sub.ensures (grind (arith, ints, to_z-of_z))
