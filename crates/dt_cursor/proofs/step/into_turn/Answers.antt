use mir.Syntax.{w64, w128}
use mir.Val.{to_z, of_z}
use Rattle.std.proofs.Common.{◌+◌, ◌<◌, ◌+ℤ◌, nat_abs, ap, ◌∙◌, subst, sym}
use Rattle.dt_cursor.specs.Search.{IsNarrowed}
use Rattle.dt_offsets.specs.Offsets.{turn_offset}
use Rattle.dt_cursor.proofs.Narrowing.{into_turn, back64, back128, framed}
use Rattle.dt_cursor.proofs.step.into_turn.Goals as goal

pub moved-requires : goal.moved-requires
moved-requires c =
    let r = c.requires.sought in
    let s = r.5 in
    let n = into_turn r.0 r.1 c.args.frames.now c.args.at c.args.base r.2 r.4 c.args.turns.now r.3 s.sought c.args.turn.number c.args.turn.left s.number s.place s.within in
    let base = back64 c.args.base c.ranges.base.sfits in
    let by = back128 c.turn_at-by.result c.turn_at-by.type_inv ∙ c.turn_at-by.ensures in
    subst (λ x. nat_abs x < 9223372036854775808) (ap (λ x. x +ℤ turn_offset c.args.turns.now c.args.turn.number) (sym base) ∙ ap (λ y. to_z w64 (of_z w64 c.args.base) +ℤ y) (sym by))
    n.near

pub returns-clause-narrowed : goal.returns-clause-narrowed
returns-clause-narrowed c code rep left body es s =
    let n = into_turn code rep c.args.frames.now c.args.at c.args.base left es c.args.turns.now body s.sought c.args.turn.number c.args.turn.left s.number s.place s.within in
    let base = back64 c.args.base c.ranges.base.sfits in
    let by = back128 c.turn_at-by.result c.turn_at-by.type_inv ∙ c.turn_at-by.ensures in
    let there = back64 c.moved.result c.moved.type_inv ∙ c.moved.ensures ∙ ap (λ x. x +ℤ to_z w128 (of_z w128 c.turn_at-by.result)) base ∙ ap (λ y. c.args.base +ℤ y) by in
    subst (λ x. IsNarrowed code rep es left c.push.new.self (c.args.at + 1) x c.args.turn.left) (sym there)
    (subst (λ fs. IsNarrowed code rep es left fs (c.args.at + 1) (c.args.base +ℤ turn_offset c.args.turns.now c.args.turn.number) c.args.turn.left)
    (sym (framed c.push.new.self c.args.frames.now c.args.at c.args.turn.number 0 _ c.args.base c.push.ensures base)) n)
