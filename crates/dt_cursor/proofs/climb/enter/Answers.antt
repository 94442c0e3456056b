use Rattle.std.specs.Prelude.{◌∷◌}
use Rattle.std.proofs.Common.{Some, sym, ◌∙◌, ap, subst}
use Rattle.dt_layout.specs.Code.{Counted}
use Rattle.dt_cursor.specs.Frames.{IsToRun, StandAt, at_element}
use Rattle.dt_cursor.specs.Search.{IsFound}
use Rattle.dt_cursor.proofs.Climbing.{base_back, first_found, first_sought, sought_at}
use Rattle.dt_cursor.proofs.Narrowing.{framed}
use Rattle.dt_cursor.proofs.Reading.{at_within, head_is, one_here}
use Rattle.dt_cursor.proofs.Running.{element_is_pushed}
use Rattle.dt_cursor.proofs.climb.enter.Goals as goal

pub descend-requires : goal.descend-requires
descend-requires c =
    let r = c.requires in
    let code = ap (λ (k : Counted). k.code) c.new-code.ensures in
    let all = c.args.next.frame ∷ c.args.frames.now in
    let base = base_back c.args.program.now c.args.rep all c.args.next.at c.args.next.base r.0 r.1 r.2 r.3 in (
      r.0,
      r.1,
      sought_at c.new-code.result.code c.args.program.now c.args.rep c.push.new.self all c.args.next.at _ c.args.next.base 0 r.0 r.1 code c.push.ensures base
          (first_sought c.args.program.now c.args.rep all c.args.next.at c.args.next.base r.0 r.1 r.2 r.3),
    )

pub returns : goal.returns
returns c body es run some =
    let code = ap (λ (k : Counted). k.code) c.new-code.ensures in
    let all = c.args.next.frame ∷ c.args.frames.now in
    let base = base_back c.args.program.now c.args.rep all c.args.next.at c.args.next.base body es run some in
    let sought =
    sought_at c.new-code.result.code c.args.program.now c.args.rep c.push.new.self all c.args.next.at _ c.args.next.base 0 body es code c.push.ensures base
    (first_sought c.args.program.now c.args.rep all c.args.next.at c.args.next.base body es run some) in
    first_found c.args.program.now c.args.rep es c.descend.new.frames c.descend.result
    (subst (λ k. IsFound k c.args.rep es 0 c.descend.new.frames c.descend.result) code (c.descend.ensures.found body es sought))

pub at-requires : goal.at-requires
at-requires c = let r = c.requires in at_within c.args.program.now c.args.next.at r.0 c.args.next.base r.2.placed

pub returns-in-One : goal.returns-in-One
returns-in-One c body es run some =
    let all = c.args.next.frame ∷ c.args.frames.now in
    let single = one_here c.args.next.at body _ (head_is c.args.program.now c.args.next.at body c.args.next.base run.placed _ (c.at.ensures ∙ ap Some c.in-One.is)) in
    let there = element_is_pushed c.args.program.now all c.args.next.at _ c.args.next.base es (subst (λ b. IsToRun c.args.program.now all c.args.next.at b c.args.next.base es) single run) in
    let base = base_back c.args.program.now c.args.rep all c.args.next.at c.args.next.base body es run some in
    let frames = framed c.push-in-One.new.self c.push.new.self c.args.next.at 0 0 _ c.args.next.base c.push-in-One.ensures base ∙ ap (λ fs. at_element c.args.next.at c.args.next.base ∷ fs) c.push.ensures in
    subst (λ fs. StandAt c.args.program.now fs es) (sym frames) there
