use Rattle.std.specs.Prelude.{◌∷◌}
use Rattle.std.proofs.Common.{subst, ◌∙◌, sym}
use Rattle.dt_cursor.specs.Frames.{StandAt}
use Rattle.dt_cursor.proofs.Takings.{is_left, under}
use Rattle.dt_cursor.proofs.taking.left_at.Goals as goal

pub rest_at-requires : goal.rest_at-requires
rest_at-requires c =
    let r = c.requires in
    let frames = under c.in_ok-outer.outer c.args.frames.now (sym c.innermost.ensures ∙ c.in_ok-outer.was) in
    (frames.0, r.0, subst (λ fs. StandAt c.args.program.now (c.args.frame ∷ fs) r.0) frames.1 r.1)

pub returns-clause-left : goal.returns-clause-left
returns-clause-left c kind es read stand =
    let frames = under c.in_ok-outer.outer c.args.frames.now (sym c.innermost.ensures ∙ c.in_ok-outer.was) in
    let there = subst (λ fs. StandAt c.args.program.now (c.args.frame ∷ fs) es) frames.1 stand in
    is_left c.args.program.now kind c.args.frame c.args.frames.now es (record { outer = c.in_ok-outer.outer; rest = c.in_ok-rest.rest }) frames.0 frames.1 there
    (c.in_ok-rest.ensures.rest kind frames.0 es read there)
