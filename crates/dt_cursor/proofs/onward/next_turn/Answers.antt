use mir.Syntax.{w64, w128}
use mir.Val.{to_z, of_z}
use Rattle.std.proofs.Common.{◌+◌, ◌<◌, ◌+ℤ◌, nat_abs, arith, ap, ◌∙◌, subst, sym}
use Rattle.dt_offsets.specs.Offsets.{turn_offset}
use Rattle.dt_layout.specs.Body.{loop}
use Rattle.dt_cursor.proofs.Halfway.{half_turn}
use Rattle.dt_cursor.proofs.Narrowing.{back64, back128}
use Rattle.dt_cursor.proofs.NextRounds.{as_next, frame_back, turn_last, turn_near, turn_next}
use Rattle.dt_cursor.proofs.onward.next_turn.Goals as goal

pub overflow_add-turn : goal.overflow_add-turn
overflow_add-turn c =
    let r = c.requires.run in
    let less = (half_turn r.0 r.1 c.args.frame c.args.turns.now r.2 r.3 r.4).within in
    omega (arith, less, c.known-fits)

pub returns-then-turn-count-clause-none : goal.returns-then-turn-count-clause-none
returns-then-turn-count-clause-none c code body levels later half =
    let past = c.if-turn-count.true in
    turn_last code levels c.args.frame c.args.turns.now body later half (omega (arith, past))

pub moved-requires : goal.moved-requires
moved-requires c =
    let r = c.requires.run in
    let more = c.if-turn-count.false in
    let base = frame_back r.0 r.1 c.args.frame (loop c.args.turns.now r.2) r.3 r.4 in
    let by = back128 c.turn_at-by.result c.turn_at-by.type_inv ∙ c.turn_at-by.ensures in
    subst (λ x. nat_abs x < 9223372036854775808) (ap (λ x. x +ℤ turn_offset c.args.turns.now (c.args.frame.turn + 1)) (sym base) ∙ ap (λ y. to_z w64 (of_z w64 c.args.frame.base) +ℤ y) (sym by))
    (turn_near r.0 r.1 c.args.frame c.args.turns.now r.2 r.3 r.4 (omega (arith, more)))

pub returns-clause-some : goal.returns-clause-some
returns-clause-some c code body levels later half =
    let more = c.if-turn-count.false in
    let base = frame_back code levels c.args.frame (loop c.args.turns.now body) later half in
    let by = back128 c.turn_at-by.result c.turn_at-by.type_inv ∙ c.turn_at-by.ensures in
    let there = back64 c.moved.result c.moved.type_inv ∙ c.moved.ensures ∙ ap (λ x. x +ℤ to_z w128 (of_z w128 c.turn_at-by.result)) base ∙ ap (λ y. c.args.frame.base +ℤ y) by in
    turn_next code levels c.args.frame c.args.turns.now body later half _ (omega (arith, more))
    (as_next c.args.frame.instr (c.args.frame.turn + 1) 0 c.args.inside (c.args.frame.instr + 1) _ c.args.frame.base _ _ c.requires.place base there)
