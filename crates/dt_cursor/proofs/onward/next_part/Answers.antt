use Rattle.std.proofs.Common.{ℕ, refl, subst, sym}
use Rattle.dt_cursor.specs.Onward.{AreParts, HaveNoElements, IsPartFrom}
use Rattle.dt_cursor.proofs.Halfway.{half_part, part_passed}
use Rattle.dt_cursor.proofs.NextRounds.{as_next, frame_back, part_last, part_next}
use Rattle.dt_cursor.proofs.Options.{is_none}
use Rattle.dt_layout.specs.Body.{seq, no_parts}
use Rattle.dt_cursor.proofs.onward.next_part.Goals as goal

pub after_loop-after-requires : goal.after_loop-after-requires
after_loop-after-requires c =
    let r = c.requires in
    let p = half_part c.args.program.now r.0 c.args.frame r.1 r.2 r.3 in
    (p.0, p.1, p.2, p.3)

pub some_part-requires : goal.some_part-requires
some_part-requires c =
    let r = c.requires in
    let p = half_part c.args.program.now r.0 c.args.frame r.1 r.2 r.3 in
    (p.2, subst (λ k. AreParts c.args.program.now k p.2) (sym (c.after_loop-after.ensures p.0 p.1 p.2 p.3)) (part_passed c.args.program.now c.args.frame.turn p.0 p.1 p.2 p.3))

pub returns-in_err-place-clause-none : goal.returns-in_err-place-clause-none
returns-in_err-place-clause-none c =
    is_none c.from_residual.result _ (λ parts levels later half.
    part_last c.args.program.now levels c.args.frame parts later half (λ t b others are.
    let place = c.after_loop-after.ensures t b others are in
    subst (λ k. (p : ℕ) × HaveNoElements k others p no_parts) place
    (c.in_err-place.ensures.none others (subst (λ k. AreParts c.args.program.now k others) (sym place) (part_passed c.args.program.now c.args.frame.turn t b others are)))))

pub returns-clause-some : goal.returns-clause-some
returns-clause-some c parts levels later half =
    let base = frame_back c.args.program.now levels c.args.frame (seq parts) later half in
    part_next c.args.program.now levels c.args.frame parts later half c.in_ok-place.place (λ t b others are.
    let place = c.after_loop-after.ensures t b others are in
    subst (λ k. IsPartFrom k others c.in_ok-place.place) place
    (c.in_ok-place.ensures.some others (subst (λ k. AreParts c.args.program.now k others) (sym place) (part_passed c.args.program.now c.args.frame.turn t b others are))))
    _ (as_next c.args.frame.instr c.in_ok-place.place 0 c.in_ok-place.place c.in_ok-place.place _ c.args.frame.base _ c.args.frame.base refl base base)
