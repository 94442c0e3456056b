use mir.Syntax.{w128}
use mir.Val.{to_z, of_z}
use Rattle.std.proofs.Common.{◌≡◌, ◌∙◌, sym, subst, arith, ◌+ℤ◌, pos, ◌/◌, ◌%◌, ◌<◌, length, take, get_or, FitsSigned}
use Rattle.std.proofs.Math.Nat.{mod-lt}
use Rattle.std.proofs.lemmas.Int.{to_z-of_z}
use Rattle.dt_offsets.specs.declared.turns.Turns.{Turns}
use Rattle.dt_offsets.specs.Offsets.{grid_offsets, turn_offset}
use Rattle.dt_offsets.proofs.GridAt.{count_some, divided, divided_some, next, next_fits}
use Rattle.dt_offsets.proofs.Products.{same128, near_fits}
use Rattle.dt_offsets.proofs.place.grid_at.Goals as goal

abbrev no_turns : Turns
no_turns = record { first = pos 0; count = 0; block = 0; jump = pos 0; step = pos 0 }

pub nonzero_div-left : goal.nonzero_div-left
nonzero_div-left c = count_some c.args.turns.now c.loop-inner.inner-index no_turns c.args.copy c.loop-inner.left c.loop-inner-test.true (let h = c.requires.copies in let k = c.requires.within in omega arith) c.loop-inner.invariant.0

pub nonzero_div-copy : goal.nonzero_div-copy
nonzero_div-copy c = divided_some c.args.turns.now c.loop-inner.inner-index no_turns c.args.copy c.loop-inner.left c.loop-inner-test.true (let h = c.requires.copies in let k = c.requires.within in omega arith) c.loop-inner.invariant.0

pub nonzero_rem-copy : goal.nonzero_rem-copy
nonzero_rem-copy c = count_some c.args.turns.now c.loop-inner.inner-index no_turns c.args.copy c.loop-inner.left c.loop-inner-test.true (let h = c.requires.copies in let k = c.requires.within in omega arith) c.loop-inner.invariant.0

pub turn_at-offset-requires-clause-within : goal.turn_at-offset-requires-clause-within
turn_at-offset-requires-clause-within c = mod-lt _ (count_some c.args.turns.now c.loop-inner.inner-index no_turns c.args.copy c.loop-inner.left c.loop-inner-test.true (let h = c.requires.copies in let k = c.requires.within in omega arith) c.loop-inner.invariant.0)

pub overflow_add-offset : goal.overflow_add-offset
overflow_add-offset c =
    let inside : c.args.copy < length (grid_offsets c.args.turns.now) = let h = c.requires.copies in let k = c.requires.within in omega arith in
    let back = same128 c.turn_at-offset.result c.turn_at-offset.type_inv in
    let before = c.loop-inner.invariant.1 in
    let turn = c.turn_at-offset.ensures in
    let fits = next_fits c.args.turns.now c.loop-inner.inner-index no_turns c.args.copy c.loop-inner.left c.loop-inner-test.true inside c.loop-inner.invariant.0 c.requires.near in
    let sum : get_or (grid_offsets (take c.loop-inner.inner-index c.args.turns.now)) (c.args.copy / c.loop-inner.left) (pos 0)
    +ℤ turn_offset (get_or c.args.turns.now c.loop-inner.inner-index no_turns) (c.args.copy / (c.loop-inner.left / (get_or c.args.turns.now c.loop-inner.inner-index no_turns).count) % (get_or c.args.turns.now c.loop-inner.inner-index no_turns).count)
    ≡ to_z w128 c.loop-inner.offset-bits +ℤ to_z w128 (of_z w128 c.turn_at-offset.result) = cc in
    subst (FitsSigned w128) sum (near_fits _ fits)

pub loop-inner-preserved : goal.loop-inner-preserved
loop-inner-preserved c =
    let inside : c.args.copy < length (grid_offsets c.args.turns.now) = let h = c.requires.copies in let k = c.requires.within in omega arith in
    let back = same128 c.turn_at-offset.result c.turn_at-offset.type_inv in
    let before = c.loop-inner.invariant.1 in
    let turn = c.turn_at-offset.ensures in
    let fits = next_fits c.args.turns.now c.loop-inner.inner-index no_turns c.args.copy c.loop-inner.left c.loop-inner-test.true inside c.loop-inner.invariant.0 c.requires.near in
    let value = next c.args.turns.now c.loop-inner.inner-index no_turns c.args.copy c.loop-inner.left c.loop-inner-test.true inside c.loop-inner.invariant.0 in
    let sum : get_or (grid_offsets (take c.loop-inner.inner-index c.args.turns.now)) (c.args.copy / c.loop-inner.left) (pos 0)
    +ℤ turn_offset (get_or c.args.turns.now c.loop-inner.inner-index no_turns) (c.args.copy / (c.loop-inner.left / (get_or c.args.turns.now c.loop-inner.inner-index no_turns).count) % (get_or c.args.turns.now c.loop-inner.inner-index no_turns).count)
    ≡ to_z w128 c.loop-inner.offset-bits +ℤ to_z w128 (of_z w128 c.turn_at-offset.result) = cc in (
      divided c.args.turns.now c.loop-inner.inner-index no_turns c.args.copy c.loop-inner.left c.loop-inner-test.true inside c.loop-inner.invariant.0,
      to_z-of_z w128 _ (subst (FitsSigned w128) sum (near_fits _ fits)) ∙ sym sum ∙ sym value,
    )
