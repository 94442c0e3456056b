use mir.Syntax.{w64, w128}
use mir.Val.{to_z, of_z}
use Rattle.std.proofs.Common.{◌≡◌, ◌<◌, ◌+ℤ◌, length, nat_abs, ap, ◌∙◌, subst, sym}
use Rattle.dt_offsets.specs.Offsets.{turn_offset}
use Rattle.dt_layout.specs.Body.{loop}
use Rattle.dt_cursor.specs.Frames.{IsHalfRun}
use Rattle.dt_cursor.proofs.Halfway.{half_turn}
use Rattle.dt_cursor.proofs.Narrowing.{back64, back128}
use Rattle.dt_cursor.proofs.Named.{back_here}
use Rattle.dt_cursor.proofs.NextRounds.{frame_back}
use Rattle.dt_cursor.proofs.WithinLevel.{at_level, in_level, in_loop, loop_near, loop_one, turns_ahead}
use Rattle.dt_kinds.proofs.Table.{native_size-pos}
use Rattle.dt_cursor.proofs.level.turns_rest.Goals as goal

pub turn_at-by-requires-clause-turns : goal.turn_at-by-requires-clause-turns
turn_at-by-requires-clause-turns c =
    let r = c.requires.run in
    let level = at_level r.0 c.args.frame c.args.outer r.3 r.4 r.6 in
    (in_loop r.0 level.0 c.args.frame c.args.outer r.3 r.4 c.args.turns.now r.1 r.2 r.5 level.1).half.placed.lawful.0

pub turn_at-by-requires-clause-within : goal.turn_at-by-requires-clause-within
turn_at-by-requires-clause-within c =
    let r = c.requires.run in
    let level = at_level r.0 c.args.frame c.args.outer r.3 r.4 r.6 in
    let is = in_loop r.0 level.0 c.args.frame c.args.outer r.3 r.4 c.args.turns.now r.1 r.2 r.5 level.1 in
    (half_turn r.0 (length r.3) c.args.outer c.args.turns.now is.body is.later is.half).within

pub moved-base-requires : goal.moved-base-requires
moved-base-requires c =
    let r = c.requires.run in
    let level = at_level r.0 c.args.frame c.args.outer r.3 r.4 r.6 in
    let is = in_loop r.0 level.0 c.args.frame c.args.outer r.3 r.4 c.args.turns.now r.1 r.2 r.5 level.1 in
    let base = frame_back r.0 (length r.3) c.args.outer (loop c.args.turns.now is.body) is.later is.half in
    let by = back128 c.turn_at-by.result c.turn_at-by.type_inv ∙ c.turn_at-by.ensures in
    subst (λ x. nat_abs x < 9223372036854775808) (ap (λ x. x +ℤ turn_offset c.args.turns.now c.args.outer.turn) (sym base) ∙ ap (λ y. to_z w64 (of_z w64 c.args.outer.base) +ℤ y) (sym by))
    (loop_near r.0 (length r.3) c.args.outer c.args.turns.now is.body is.later is.half)

pub turns_left-requires-clause-turns : goal.turns_left-requires-clause-turns
turns_left-requires-clause-turns c =
    let r = c.requires.run in
    let level = at_level r.0 c.args.frame c.args.outer r.3 r.4 r.6 in
    (in_loop r.0 level.0 c.args.frame c.args.outer r.3 r.4 c.args.turns.now r.1 r.2 r.5 level.1).half.placed.lawful.0

pub turns_left-requires-clause-within : goal.turns_left-requires-clause-within
turns_left-requires-clause-within c =
    let r = c.requires.run in
    let level = at_level r.0 c.args.frame c.args.outer r.3 r.4 r.6 in
    let is = in_loop r.0 level.0 c.args.frame c.args.outer r.3 r.4 c.args.turns.now r.1 r.2 r.5 level.1 in
    (half_turn r.0 (length r.3) c.args.outer c.args.turns.now is.body is.later is.half).within

pub returns-then-frame-inside-clause-rest : goal.returns-then-frame-inside-clause-rest
returns-then-frame-inside-clause-rest c code sizes next kind frames es read one_read stand =
    let is = in_loop code kind c.args.frame c.args.outer frames es c.args.turns.now sizes next read (in_level code kind c.args.frame c.args.outer frames es one_read stand) in
    let single = loop_one code kind (length frames) c.args.outer c.args.turns.now is.body is.later is.half c.args.frame.instr (c.if-frame-inside.true ∙ c.requires.place) one_read in
    let half = subst (λ b. IsHalfRun code (length frames) c.args.outer (loop c.args.turns.now b) is.later) single is.half in
    let base = frame_back code (length frames) c.args.outer (loop c.args.turns.now is.body) is.later is.half in
    let by = back128 c.turn_at-by.result c.turn_at-by.type_inv ∙ c.turn_at-by.ensures in
    let there : c.args.frame.base ≡ c.args.outer.base +ℤ turn_offset c.args.turns.now c.args.outer.turn =
    sym (back_here c.args.frame.base (stand.2.offset (native_size-pos stand.0))) ∙ ap (to_z w64) c.if-frame-base.true ∙ back64 c.moved-base.result c.moved-base.type_inv ∙ c.moved-base.ensures
    ∙ ap (λ x. x +ℤ to_z w128 (of_z w128 c.turn_at-by.result)) base ∙ ap (λ y. c.args.outer.base +ℤ y) by in
    turns_ahead code kind frames c.args.outer c.args.turns.now is.later is.rest half is.outside c.turns_left.result c.turns_left.ensures.rest c.turns_left.ensures.kind c.args.frame.base there es is.all
